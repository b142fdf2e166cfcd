use Rattle.std.proofs.Common.{◌+◌, ◌∙◌, get_or, set, sym, ap, arith}
use Rattle.typed_copies.proofs.Overlaid.{moved_more, moved_none}
use Rattle.typed_copies.proofs.moving.move_down.Goals as goal

pub loop-k-init : goal.loop-k-init
loop-k-init g c = record { moved = sym (moved_none c.args.bytes.now c.args.to c.args.from); steps = omega arith }

pub loop-k-preserved : goal.loop-k-preserved
loop-k-preserved g c = record {
  moved = c.copy_byte.ensures.copied ∙ ap (λ l. set l (c.args.to + c.loop-k.k) (get_or l (c.args.from + c.loop-k.k) 0)) c.loop-k.invariant.moved ∙ moved_more c.args.bytes.now c.args.to c.args.from c.loop-k.k c.requires.down (omega (arith, c.requires.inside));
  steps = omega (arith, c.copy_byte.ensures.steps, c.loop-k.invariant.steps);
}
