use Rattle.std.proofs.Common.{length}
use Rattle.local_liveness.proofs.Sweeping.{Swept}
use Rattle.local_liveness.proofs.sweeps.sweep.Given as goal

abbrev pub invariant-loop-point : goal.invariant-loop-point
invariant-loop-point l = Swept l.body (length l.fn.live) l.point l.fn.fronts l.fronts l.live l.more
