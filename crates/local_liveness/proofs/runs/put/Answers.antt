use Rattle.std.proofs.Common.{refl, arith}
use Rattle.local_liveness.proofs.Bits.{insert_bit, remove_bit}
use Rattle.local_liveness.proofs.Marks.{put_on, put_off}
use Rattle.local_liveness.proofs.runs.put.Goals as goal

pub returns-then-on : goal.returns-then-on
returns-then-on c = put_on c.args.bit c.args.on c.args.words.now _ c.if-on.true (insert_bit c.args.words.now c.args.bit _ (omega arith) refl)

pub returns-else-on : goal.returns-else-on
returns-else-on c = put_off c.args.bit c.args.on c.args.words.now _ c.if-on.false (remove_bit c.args.words.now c.args.bit _ (omega arith) refl)
