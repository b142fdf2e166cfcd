use Rattle.c_units.proofs.Words.Std.{drop, ◌≡◌}
use Rattle.c_units.proofs.Words.Trees.{entry_view, trees}
use Rattle.c_units.proofs.Words.Units.{all_noted, entry_names}
use Rattle.c_units.proofs.statics.note_all.Given as goal

-- the names of the entries that are left come behind those that are noted
abbrev pub invariant-loop-entry : goal.invariant-loop-entry
invariant-loop-entry l =
    all_noted l.names (entry_names (trees entry_view (drop l.entry-index l.list))) ≡ all_noted l.initial.names (entry_names (trees entry_view l.list))
