use Rattle.local_liveness.proofs.Joins.{Joined}
use Rattle.local_liveness.proofs.register_set.RegisterSet.join.Given as goal

abbrev pub invariant-loop-i : goal.invariant-loop-i
invariant-loop-i l = Joined l.fn.self l.other l.self l.i l.more
