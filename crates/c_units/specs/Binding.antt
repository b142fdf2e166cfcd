-- What the names in the expressions of a unit are bound to: the latest declaration that holds where they stand (C99 6.2.1).
use Rattle.std.specs.Prelude.{ℕ, suc, Bool, true, false, if◌then◌else◌, bytes_eq, List, [], ◌∷◌, ◌++◌, Option, Some, None}
use Rattle.c_tree.specs.Words as w
use Rattle.c_tree.specs.Forms.{Form}
use Rattle.c_tree.specs.Forms as f
use Rattle.c_tree.specs.Places.{Place}
use Rattle.c_tree.specs.Places as p
use Rattle.c_tree.specs.Tree.{Tree, Trees, Leaf, At, Node, none, ◌▹◌, count}
use Rattle.c_tree.specs.Grammar.{shape}
use Rattle.c_tree.specs.Scopes.{name_of, name_among, params_of, has_typedef, is_scope, places}

-- a declaration: in an inner scope, by its number among those of its external declaration; of an object or a function by an
-- external declaration; of a typedef name or an enumerator at file scope
pub data Declaration : Type 0 where
  Inner : (number : ℕ) → Declaration
  External : Declaration
  Constant : Declaration

-- a declaration that holds, by its name
pub record Held : Type 0 where
  pub name : List ℕ
  pub declaration : Declaration

-- a name in an expression, and what it is bound to; an open name is bound to nothing
pub record Use : Type 0 where
  pub name : List ℕ
  pub declaration : Option Declaration

-- at a place of a unit: the declarations that hold, the latest first; whether an inner scope is open; how many were declared in
-- inner scopes of this external declaration; and the names in its expressions so far
pub record Scope : Type 0 where
  pub held : List Held
  pub inside : Bool
  pub inner : ℕ
  pub uses : List Use

abbrev pub declaration_of : List Held → List ℕ → Option Declaration
declaration_of [] name = None
declaration_of (held ∷ rest) name = if bytes_eq held.name name then Some held.declaration else declaration_of rest name

-- a name is declared, where there is one
abbrev pub hold : Option (List ℕ) → Declaration → Scope → Scope
hold None declaration s = s
hold (Some name) declaration s = record s { held = record { name = name; declaration = declaration } ∷ s.held }

-- in an inner scope, if one is open
abbrev pub hold_inner : Option (List ℕ) → Scope → Scope
hold_inner name s = hold name (Inner s.inner) (record s { inner = suc s.inner })

abbrev pub hold_here : Option (List ℕ) → Scope → Scope
hold_here name s = if s.inside then hold_inner name s else hold name Constant s

-- the parts of a name in an expression
abbrev pub use_of : Trees → Scope → Scope
use_of (At line ▹ Leaf (w.Name name) ▹ none) s =
    record s { uses = s.uses ++ record { name = name; declaration = declaration_of s.held name } ∷ [] }
use_of parts s = s

-- behind a scope its declarations hold no more
abbrev pub left_scope : Scope → Scope → Scope
left_scope before inner = record inner { held = before.held; inside = before.inside }

abbrev pub left_part : Bool → Scope → Scope → Scope
left_part true before inner = left_scope before inner
left_part false before inner = inner

-- a parameter list is a scope
unfoldable pub entered : Form → Scope → Scope
entered f.FunctionSuffix s = record s { inside = true }
entered _ s = s

-- what holds behind a node, given what holds before it and behind its parts
unfoldable pub left : Form → Trees → Scope → Scope → Scope
left f.Body parts before inner = left_scope before inner
left f.Block parts before inner = left_scope before inner
left f.Delay parts before inner = left_scope before inner
left f.If parts before inner = left_scope before inner
left f.IfElse parts before inner = left_scope before inner
left f.While parts before inner = left_scope before inner
left f.Do parts before inner = left_scope before inner
left f.For parts before inner = left_scope before inner
left f.Switch parts before inner = left_scope before inner
left f.FunctionSuffix parts before inner = left_scope before inner
left f.Declared parts before inner = hold_here (name_among parts) inner
left f.Param parts before inner = hold_here (name_among parts) inner
left f.Enumerator parts before inner = hold_here (name_among parts) inner
left f.Name parts before inner = use_of parts inner
left _ parts before inner = inner

unfoldable mutual
  -- what holds behind a tree
  pub after : Tree → Scope → Scope
  after (Leaf word) s = s
  after (At line) s = s
  after (Node form parts) s = left form parts s (after_all parts (places (shape form (count parts))) (entered form s))

  -- the same of parts in turn, at these places
  pub after_all : Trees → List Place → Scope → Scope
  after_all none ps s = s
  after_all (tree ▹ rest) [] s = s
  after_all (tree ▹ rest) (place ∷ ps) s = after_all rest ps (left_part (is_scope place) s (after tree s))

abbrev pub declared_as : Bool → Declaration
declared_as true = Constant
declared_as false = External

-- behind a declarator of an external declaration
abbrev pub after_declarator : Bool → Tree → Scope → Scope
after_declarator typedef declarator s = hold (name_of declarator) (declared_as typedef) (after declarator s)

-- behind the names of a declaration at file scope, each declared before its initializer
unfoldable pub after_entries : Bool → Trees → Scope → Scope
after_entries typedef (Node f.Entry (Node f.Declared (declarator ▹ none) ▹ init ▹ none) ▹ rest) s =
    after_entries typedef rest (after init (after_declarator typedef declarator s))
after_entries typedef names s = s

-- with the declarations of parameters, if there are some
abbrev pub with_params : Option Trees → Scope → Scope
with_params None s = s
with_params (Some params) s = after_all params (p.Params ∷ []) s

-- where the body of a function begins, which shares a scope with the parameters; their own expressions are not told twice
abbrev pub inside_params : Option Trees → Scope → Scope
inside_params params s = record (with_params params (record s { inside = true })) { uses = s.uses }

-- behind an external declaration
unfoldable pub after_external : Tree → Scope → Scope
after_external (Node f.Function (line ▹ words ▹ Node f.Declared (declarator ▹ none) ▹ body ▹ none)) s =
    let name = after_declarator false declarator (after words s) in
    left_scope name (after body (inside_params (params_of declarator) name))
after_external (Node f.Declaration (line ▹ Node f.Specs words ▹ Node f.Names names ▹ none)) s =
    after_entries (has_typedef words) names (after (Node f.Specs words) s)
after_external tree s = s

-- the names in the expressions of each external declaration in turn
unfoldable pub each_uses : Trees → Scope → List (List Use)
each_uses none s = []
each_uses (tree ▹ rest) s =
    let next = after_external tree (record s { inner = 0; uses = [] }) in next.uses ∷ each_uses rest next

-- before the first external declaration
abbrev pub no_scope : Scope
no_scope = record { held = []; inside = false; inner = 0; uses = [] }

-- the names in the expressions of a unit, and what they are bound to: a list for each external declaration
abbrev pub uses_of : Trees → List (List Use)
uses_of unit = each_uses unit no_scope
