use Rattle.std.proofs.Common.{◌∙◌, sym, arith}
use Rattle.typed_copies.proofs.Overlaid.{moved_back, moved_last}
use Rattle.typed_copies.proofs.moving.move_up.Goals as goal

pub loop-k-init : goal.loop-k-init
loop-k-init g c = record { moved = sym (moved_last c.args.bytes.now c.args.to c.args.from c.args.n); steps = omega arith }

pub loop-k-preserved : goal.loop-k-preserved
loop-k-preserved g c = record {
  moved = c.copy_byte.ensures.copied ∙ moved_back c.args.bytes.now c.loop-k.bytes c.args.to c.args.from c.loop-k.k c.args.n c.requires.up (omega arith) (omega arith) c.requires.inside c.loop-k.invariant.moved;
  steps = omega (arith, c.copy_byte.ensures.steps, c.loop-k.invariant.steps);
}
