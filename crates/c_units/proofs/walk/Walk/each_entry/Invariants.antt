use Rattle.c_tree.specs.StatementView.{entry_view}
use Rattle.c_units.proofs.ItemTurns.{AreLeft, Leads}
use Rattle.c_units.proofs.walk.Walk.each_entry.Given as goal

abbrev pub invariant-loop-one : goal.invariant-loop-one
invariant-loop-one l = AreLeft l.initial.list l.list l.one-index × Leads entry_view l.initial.list l.list l.one-index l.self l.initial.self
