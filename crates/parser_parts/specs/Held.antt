-- A tree that may be left out.
use Rattle.std.specs.Prelude.{Option, Some, None}
use Rattle.c_tree.specs.Tree.{Tree, Trees, none, ◌▹◌}

abbrev pub maybe_trees : {A : Type 0} → (A → Tree) → Option A → Trees
maybe_trees view None = none
maybe_trees view (Some x) = view x ▹ none
