use Rattle.std.proofs.Common.{◌≡◌, drop}
use Rattle.c_tree.specs.StatementView.{trees, entry_view}
use Rattle.c_units.specs.Merge.{are_plain}
use Rattle.c_units.proofs.said.are_plain.Given as goal

-- the names that are left decide
abbrev pub invariant-loop-entry : goal.invariant-loop-entry
invariant-loop-entry l = are_plain (trees entry_view (drop l.entry-index l.names)) ≡ are_plain (trees entry_view l.names)
