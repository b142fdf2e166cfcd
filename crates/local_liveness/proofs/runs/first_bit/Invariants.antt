use Rattle.std.proofs.Common.{◌-◌}
use Rattle.local_liveness.specs.Sets.{in_both}
use Rattle.local_liveness.proofs.Scanning.{Scanned}
use Rattle.local_liveness.proofs.runs.first_bit.Given as goal

abbrev pub invariant-loop-bit : goal.invariant-loop-bit
invariant-loop-bit l = Scanned (in_both l.ones l.others) l.common l.from l.bit

abbrev pub decreases-loop-bit : goal.decreases-loop-bit
decreases-loop-bit l = l.until - l.bit
