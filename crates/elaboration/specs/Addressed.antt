-- Which parameters and locals of a function are taken the address of, by `&` before their name, also inside `sizeof`. They
-- are numbered in order of declaration, with the parameters of prototypes among them.
use Rattle.std.specs.Prelude.{ℕ, ◌+◌, Bool, true, false, ◌||◌, cond, bytes_eq, List, [], ◌∷◌, Option, Some, None}
use Rattle.c_tree.specs.declared.operator.UnaryOp.TheVariants as u
use Rattle.c_tree.specs.Words as w
use Rattle.c_tree.specs.Forms.{Form}
use Rattle.c_tree.specs.Forms as f
use Rattle.c_tree.specs.Places.{Place}
use Rattle.c_tree.specs.Places as p
use Rattle.c_tree.specs.Tree.{Tree, Trees, Leaf, At, Node, none, ◌▹◌, count}
use Rattle.c_tree.specs.Grammar.{shape}
use Rattle.c_tree.specs.Scopes.{name_among, has_typedef, is_scope, places, params_of}

-- a name that is declared at a place: the number of a parameter or local, or something else
pub record Known : Type 0 where
  pub name : List ℕ
  pub number : Option ℕ

-- the names at a place, the latest first; whether the running declaration is one of typedef names; how many parameters and
-- locals were declared; and which of them the address was taken of
pub record Taken : Type 0 where
  pub names : List Known
  pub typedef : Bool
  pub declared : ℕ
  pub addressed : List ℕ

abbrev pub nothing_taken : Taken
nothing_taken = record { names = []; typedef = false; declared = 0; addressed = [] }

-- the number of the parameter or local that a name means
abbrev pub number_of : List Known → List ℕ → Option ℕ
number_of [] name = None
number_of (known ∷ rest) name = cond (bytes_eq known.name name) known.number (number_of rest name)

-- the name in parentheses or without them
unfoldable pub plain_name : Tree → Option (List ℕ)
plain_name (Node f.Name (At line ▹ Leaf (w.Name name) ▹ none)) = Some name
plain_name (Node f.Paren (At line ▹ e ▹ none)) = plain_name e
plain_name tree = None

abbrev pub with_number : Option ℕ → Taken → Taken
with_number None t = t
with_number (Some n) t = record t { addressed = n ∷ t.addressed }

abbrev pub with_address : Option (List ℕ) → Taken → Taken
with_address None t = t
with_address (Some name) t = with_number (number_of t.names name) t

abbrev pub with_known : Option (List ℕ) → Option ℕ → Taken → Taken
with_known None number t = t
with_known (Some name) number t = record t { names = record { name = name; number = number } ∷ t.names }

-- one parameter or local more
abbrev pub with_local : Option (List ℕ) → Taken → Taken
with_local name t =
    let d = with_known name (Some t.declared) t in record d { declared = t.declared + 1 }

abbrev pub declare : Bool → Option (List ℕ) → Taken → Taken
declare true name t = with_known name None t
declare false name t = with_local name t

-- the names before a scope hold again behind it
abbrev pub left_scope : Taken → Taken → Taken
left_scope before inner = record inner { names = before.names; typedef = before.typedef }

-- how a node changes what is known, given what is known behind its parts
unfoldable pub left : Form → Trees → Taken → Taken → Taken
left f.Body parts before inner = left_scope before inner
left f.Block parts before inner = left_scope before inner
left f.Delay parts before inner = left_scope before inner
left f.If parts before inner = left_scope before inner
left f.IfElse parts before inner = left_scope before inner
left f.While parts before inner = left_scope before inner
left f.Do parts before inner = left_scope before inner
left f.For parts before inner = left_scope before inner
left f.Switch parts before inner = left_scope before inner
left f.FunctionSuffix parts before inner = left_scope before inner
left f.Specs parts before inner = record inner { typedef = has_typedef parts || before.typedef }
left f.Declared parts before inner = declare before.typedef (name_among parts) (record inner { typedef = before.typedef })
left f.Param parts before inner = with_local (name_among parts) (record inner { typedef = before.typedef })
left f.Enumerator parts before inner = with_known (name_among parts) None (record inner { typedef = before.typedef })
left (f.Unary u.Address) (line ▹ e ▹ none) before inner = with_address (plain_name e) inner
left other parts before inner = record inner { typedef = before.typedef }

abbrev pub left_part : Bool → Taken → Taken → Taken
left_part true before inner = left_scope before inner
left_part false before inner = inner

unfoldable mutual
  -- what is known behind a tree
  pub taken : Tree → Taken → Taken
  taken (Leaf word) t = t
  taken (At line) t = t
  taken (Node form parts) t = left form parts t (all_taken parts (places (shape form (count parts))) t)

  -- what is known behind some parts of these places
  pub all_taken : Trees → List Place → Taken → Taken
  all_taken none ps t = t
  all_taken (tree ▹ rest) [] t = t
  all_taken (tree ▹ rest) (place ∷ ps) t = all_taken rest ps (left_part (is_scope place) t (taken tree t))

abbrev pub params_taken : Option Trees → Taken → Taken
params_taken None t = t
params_taken (Some params) t = all_taken params (p.Params ∷ []) t

-- the numbers of those whose address is taken in a definition: its parameters come first, and its body is behind them
abbrev pub addressed_in : Tree → Tree → List ℕ
addressed_in declared body = (taken body (params_taken (params_of declared) nothing_taken)).addressed
