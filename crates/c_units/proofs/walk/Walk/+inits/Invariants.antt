use Rattle.c_tree.specs.StatementView.{init_view}
use Rattle.c_units.proofs.ItemTurns.{AreLeft, Leads}
use Rattle.c_units.proofs.walk.Walk.+inits.Given as goal

abbrev pub invariant-inits-loop-one : goal.invariant-inits-loop-one
invariant-inits-loop-one l = AreLeft l.initial.list l.list l.one-index × Leads init_view l.initial.list l.list l.one-index l.self l.initial.self
