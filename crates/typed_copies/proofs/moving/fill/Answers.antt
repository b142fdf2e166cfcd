use Rattle.std.proofs.Common.{◌+◌, ◌∙◌, ap, arith}
use Rattle.byte_memory.specs.Bytes.{put_word}
use Rattle.typed_copies.proofs.Overlaid.{set_byte_more}
use Rattle.typed_copies.proofs.moving.fill.Goals as goal

pub loop-k-preserved : goal.loop-k-preserved
loop-k-preserved g c = record {
  filled = c.write.ensures.value ∙ ap (put_word c.loop-k.bytes (c.args.to + c.loop-k.k) 1) c.from.ensures ∙ set_byte_more c.args.bytes.now c.loop-k.bytes c.args.to c.args.byte c.loop-k.k (omega (arith, c.requires.inside)) c.ranges.byte.fits c.loop-k.invariant.filled;
  steps = omega (arith, c.write.ensures.step, c.loop-k.invariant.steps);
}
