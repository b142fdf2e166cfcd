use Rattle.std.proofs.Common.{length}
use Rattle.local_liveness.proofs.Sweeping.{Filled}
use Rattle.local_liveness.proofs.sweeps.fill.Given as goal

abbrev pub invariant-loop : goal.invariant-loop
invariant-loop l = Filled l.body (length l.fn.live) l.counter l.fronts (length l.live)
