use Rattle.c_units.proofs.ItemTurns.{AreLeft}
use Rattle.c_units.proofs.SaidTurns.{Leads}
use Rattle.c_units.proofs.walk.Walk.each_file_entry.Given as goal

abbrev pub invariant-loop-one : goal.invariant-loop-one
invariant-loop-one l =
    AreLeft l.initial.list l.list l.one-index × Leads l.line l.typedef l.initial.list l.list l.one-index l.self l.initial.self
