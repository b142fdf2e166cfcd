use Rattle.std.proofs.Common.{◌<◌, ◌*◌, ◌%◌, ◌^◌, arith}
use Rattle.std.proofs.lemmas.Nat.{and_le_l}
use Rattle.local_liveness.specs.Sets.{in_both}
use Rattle.local_liveness.proofs.Scanning.{scanned_more, scanned_found}
use Rattle.local_liveness.proofs.runs.first_bit.Goals as goal

pub returns-then-word-ne0 : goal.returns-then-word-ne0
returns-then-word-ne0 c =
    let small : c.bits.result < 2 ^ 64 = omega arith in
    let less = and_le_l c.bits.result (18446744073709551615 * 2 ^ (c.loop-bit.bit % 64) % 18446744073709551616) in
    scanned_found (in_both c.args.ones.now c.args.others.now) c.args.common c.args.from c.args.until c.loop-bit.bit c.bits.result c.loop-bit.invariant (omega arith)
    c.bits.ensures (omega arith) (omega arith) c.min.result c.min.ensures

pub loop-bit-preserved : goal.loop-bit-preserved
loop-bit-preserved c =
    scanned_more (in_both c.args.ones.now c.args.others.now) c.args.common c.args.from c.args.until c.loop-bit.bit c.bits.result c.loop-bit.invariant (omega arith)
    c.bits.ensures (omega arith)
