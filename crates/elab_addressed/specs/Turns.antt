-- Trees that are gone through in turn, and what is forgotten behind a scope.
use Rattle.std.specs.Prelude.{◌≡◌, ℕ, Bool, true, false, cond, List, Option, Result, IfOk, take, reverse}
use Rattle.c_tree.specs.declared.statement.Init.{Init}
use Rattle.c_tree.specs.declared.statement.Stmt.{Stmt}
use Rattle.c_tree.specs.declared.statement.StmtKind.{StmtKind}
use Rattle.c_tree.specs.declared.statement.StmtKind.TheVariants as s
use Rattle.c_tree.specs.Tree.{Tree, Trees, Leaf, At, Node, none, ◌▹◌, count}
use Rattle.c_tree.specs.Grammar.{shape}
use Rattle.c_tree.specs.declared.tree.SuffixKind.{SuffixKind}
use Rattle.c_tree.specs.declared.tree.Suffix.{Suffix}
use Rattle.c_tree.specs.declared.tree.Base.{Base}
use Rattle.c_tree.specs.declared.tree.Declarator.{Declarator}
use Rattle.c_tree.specs.declared.tree.Param.{Param}
use Rattle.c_tree.specs.Forms as f
use Rattle.c_tree.specs.Scopes.{places, params_of, suffix_params}
use Rattle.c_tree.specs.View.{suffix_tree, base_tree, declarator_tree}
use Rattle.c_tree.specs.StatementView.{trees, maybe, init_view, suffix_view, param_view, body_view}
use Rattle.c_tree.specs.declared.operator.UnaryOp.{UnaryOp}
use Rattle.c_tree.specs.declared.operator.UnaryOp.TheVariants as u
use Rattle.elaboration.specs.Addressed.{Taken, taken, all_taken, plain_name, with_address, left_scope, params_taken, addressed_in}

-- what is known behind some trees that are no scopes
abbrev pub in_turn : Trees → Taken → Taken
in_turn none t = t
in_turn (tree ▹ rest) t = in_turn rest (taken tree t)

-- the first so many names alone
abbrev pub back_to : ℕ → Taken → Taken
back_to depth t = record t { names = reverse (take depth (reverse t.names)) }

-- whether the running declaration is one of typedef names is as before
abbrev pub settled : Taken → Taken → Taken
settled before inner = record inner { typedef = before.typedef }

-- what is known behind the parts of a tree, before its end
abbrev pub inside : Tree → Taken → Taken
inside (Leaf word) t = t
inside (At line) t = t
inside (Node form parts) t = all_taken parts (places (shape form (count parts))) t

-- the first so many names alone, where a scope ends
abbrev pub left_if : Bool → ℕ → Taken → Taken
left_if scope depth t = cond scope (back_to depth t) t

-- statements that are scopes (C99 6.8.2 to 6.8.5)
abbrev pub is_scope_kind : StmtKind → Bool
is_scope_kind (s.Block' shape items) = true
is_scope_kind (s.Delay' shape items) = true
is_scope_kind (s.If' e p at kind other) = true
is_scope_kind (s.While' e p at kind) = true
is_scope_kind (s.Do' p at kind e) = true
is_scope_kind (s.For' start test step p at kind) = true
is_scope_kind (s.Switch' e p at kind) = true
is_scope_kind kind = false

-- the parameters of a suffix, if it has some
abbrev pub kind_params : SuffixKind → Option Trees
kind_params kind = suffix_params (Node f.Suffixes (suffix_tree kind 0 ▹ none) ▹ none)

-- what a sign before an operand does behind it
abbrev pub behind_operator : UnaryOp → Tree → Taken → Taken
behind_operator u.Address operand t = with_address (plain_name operand) t
behind_operator op operand t = t

-- where all goes well, this is known behind a part, but for whether the running declaration is one of typedef names
abbrev pub Settles : {A E : Type 0} → Taken → Taken → Result A E → Taken → Type 0
Settles before after result wanted = IfOk result (λ _. settled before after ≡ wanted)

-- what is known behind the parts of a tree, with the running declaration as before
abbrev pub settled_inside : Tree → Taken → Taken
settled_inside tree t = settled t (inside tree t)

-- an initializer that may be left out
abbrev pub maybe_init : Option Init → Tree
maybe_init init = maybe f.MaybeInit init_view init

-- suffixes behind what they stand behind, and alone
abbrev pub direct_tree : Base → List Suffix → Tree
direct_tree base list = Node f.Direct (base_tree base ▹ Node f.Suffixes (trees suffix_view list) ▹ none)

abbrev pub suffix_parts : List Suffix → Trees
suffix_parts list = Node f.Suffixes (trees suffix_view list) ▹ none

-- the parameters of a declarator are known, also of one whose suffixes are in hand, and those of a prototype are gone through in a scope of their own
abbrev pub with_params_of : Declarator → Taken → Taken
with_params_of declarator t = params_taken (params_of (declarator_tree declarator)) t

abbrev pub with_params_behind : Base → List Suffix → Taken → Taken
with_params_behind base list t = params_taken (params_of (direct_tree base list)) t

abbrev pub with_suffix_params : List Suffix → Taken → Taken
with_suffix_params list t = params_taken (suffix_params (suffix_parts list)) t

abbrev pub prototype_taken : List Param → Taken → Taken
prototype_taken list t = left_scope t (in_turn (trees param_view list) t)

-- the parameters and locals of a function whose address is taken
abbrev pub addressed_by : Declarator → List Stmt → ℕ → List ℕ
addressed_by declarator list end = addressed_in (declarator_tree declarator) (body_view list end)
