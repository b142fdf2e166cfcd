use Rattle.std.proofs.Common.{arith}
use Rattle.local_liveness.proofs.Joins.{joined_all}
use Rattle.local_liveness.proofs.register_set.RegisterSet.join.Goals as goal

pub returns-clause-adds : goal.returns-clause-adds
returns-clause-adds c =
    joined_all c.args.self.now c.args.other.now c.loop-i.self c.loop-i.i c.loop-i.more (omega (arith, c.loop-i.invariant.long)) c.loop-i.invariant
