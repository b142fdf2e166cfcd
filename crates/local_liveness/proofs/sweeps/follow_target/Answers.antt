use Rattle.std.proofs.Common.{arith, refl}
use Rattle.local_liveness.proofs.Bits.{none_past}
use Rattle.local_liveness.proofs.sweeps.follow_target.Goals as goal

pub returns-else-target-fronts : goal.returns-else-target-fronts
returns-else-target-fronts c = record { words = refl; bits = λ r less. none_past c.args.fronts.now c.args.target c.args.live.now (omega arith) r }
