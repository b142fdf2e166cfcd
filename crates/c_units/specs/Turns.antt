-- Trees that are gone through in turn, none of which is a scope.
use Rattle.std.specs.Prelude.{ℕ, Bool, true, false, cond, List, Option, Some, None}
use Rattle.c_tree.specs.declared.statement.StmtKind.{StmtKind}
use Rattle.c_tree.specs.declared.statement.StmtKind.TheVariants as k
use Rattle.c_tree.specs.declared.tree.TagKind.{TagKind}
use Rattle.c_tree.specs.declared.tree.TagKind.TheVariants as t
use Rattle.c_tree.specs.declared.tree.SuffixKind.{SuffixKind}
use Rattle.c_tree.specs.declared.statement.Init.{Init}
use Rattle.c_tree.specs.StatementView.{init_view}
use Rattle.c_tree.specs.Forms.{Form}
use Rattle.c_tree.specs.Forms as f
use Rattle.c_tree.specs.Tree.{Tree, Trees, Leaf, At, Node, none, ◌▹◌, count}
use Rattle.c_tree.specs.Grammar.{shape}
use Rattle.c_tree.specs.Scopes.{places, suffix_params}
use Rattle.c_tree.specs.View.{suffix_tree}
use Rattle.c_units.specs.declared.walk.Outer.{Outer}
use Rattle.c_units.specs.Names.{Names, behind, all_behind, renamed, entered, left_scope}
use Rattle.c_units.specs.Sets.{back_to}

-- what is known behind some trees
abbrev pub in_turn : Trees → Names → Names
in_turn none s = s
in_turn (tree ▹ rest) s = in_turn rest (behind tree s)

-- the trees as they stand in the program
abbrev pub each_renamed : Trees → Names → Trees
each_renamed none s = none
each_renamed (tree ▹ rest) s = renamed tree s ▹ each_renamed rest (behind tree s)

-- trees behind others
abbrev pub joined : Trees → Trees → Trees
joined none more = more
joined (tree ▹ rest) more = tree ▹ joined rest more

-- what is known behind the parts of a tree, before its end
abbrev pub inner : Tree → Names → Names
inner (Leaf word) s = s
inner (At line) s = s
inner (Node form parts) s = all_behind parts (places (shape form (count parts))) (entered form parts s)

-- what is known behind a tree that may be left out, and the tree as it stands in the program
abbrev pub behind_maybe : Option Tree → Names → Names
behind_maybe None s = s
behind_maybe (Some tree) s = behind tree s

abbrev pub renamed_maybe : Form → Option Tree → Names → Tree
renamed_maybe form None s = Node form none
renamed_maybe form (Some tree) s = Node form (renamed tree s ▹ none)

-- what is known behind a branch that may be left out, which is a scope of its own
abbrev pub behind_branch : Option Tree → Names → Names
behind_branch None s = s
behind_branch (Some tree) s = left_scope s (behind tree s)

-- where a scope ends, if it is one
abbrev pub back_if : Bool → Outer → Names → Names
back_if scope outer s = cond scope (back_to outer s) s

-- statements that are scopes (C99 6.8.2 to 6.8.5)
abbrev pub is_scope_kind : StmtKind → Bool
is_scope_kind (k.Block' shape items) = true
is_scope_kind (k.Delay' shape items) = true
is_scope_kind (k.If' e p at kind other) = true
is_scope_kind (k.While' e p at kind) = true
is_scope_kind (k.Do' p at kind e) = true
is_scope_kind (k.For' start test step p at kind) = true
is_scope_kind (k.Switch' e p at kind) = true
is_scope_kind kind = false

-- the name of a tag with braces
abbrev pub braced_name : TagKind → Option (List ℕ)
braced_name (t.RecordBody' sort name shape members) = name
braced_name (t.EnumBody' name shape enumerators trailing) = name
braced_name kind = None

-- the parameters of a suffix, if it has some
abbrev pub kind_params : SuffixKind → Option Trees
kind_params kind = suffix_params (Node f.Suffixes (suffix_tree kind 0 ▹ none) ▹ none)

-- an initializer that may be left out
abbrev pub inits_of : Option Init → Trees
inits_of None = none
inits_of (Some init) = init_view init ▹ none
