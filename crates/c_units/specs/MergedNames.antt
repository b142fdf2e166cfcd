-- The merge of units has some of their external declarations, in their order, with names that may have a suffix.
use Rattle.std.specs.Prelude.{◌≡◌, ◌≤◌, length, map, List, [], ◌∷◌, Ok}
use Rattle.c_tree.specs.Tree.{Trees, none}
use Rattle.c_tree.specs.StatementView.{unit_view}
use Rattle.c_tree.specs.Renaming.{RenamesSome}
use Rattle.c_tree.specs.declared.statement.Unit.{Unit as Code}
use Rattle.c_units.specs.Merge.{merged}
use Rattle.c_units.specs.Turns.{joined}

-- the external declarations of all units, one behind another
abbrev pub joined_all : List Trees → Trees
joined_all [] = none
joined_all (unit ∷ units) = joined unit (joined_all units)

abbrev pub units_joined : List Code → Trees
units_joined units = joined_all (map unit_view units)

abbrev pub MergesRename : Type 0
MergesRename =
    (units : List Code) (trees : Trees) → length units ≤ 64 → merged (map unit_view units) ≡ Ok trees →
    RenamesSome (joined_all (map unit_view units)) trees
