use Rattle.std.proofs.Common.{◌-◌}
use Rattle.local_liveness.specs.Sets.{in_both}
use Rattle.local_liveness.proofs.Scanning.{Scanned}
use Rattle.local_liveness.proofs.register_set.RegisterSet.first_common.Given as goal

abbrev pub invariant-loop-register : goal.invariant-loop-register
invariant-loop-register l = Scanned (in_both l.self l.other) l.common l.from l.register

abbrev pub decreases-loop-register : goal.decreases-loop-register
decreases-loop-register l = l.until - l.register
