use Rattle.std.proofs.Common.{List, ℕ, subst, sym}
use Rattle.flat_machine.specs.Loading.{HasPlaced}
use Rattle.flat_machine.proofs.Placing.{frame_none, none_placed}
use Rattle.flat_machine.proofs.statics.place_statics.Goals as goal

pub loop-k-init : goal.loop-k-init
loop-k-init g c = record {
  placed = subst (λ (l : List ℕ). HasPlaced c.args.code.now c.args.objects.now l 0) (sym c.new-addrs.ensures.items) (none_placed c.args.code.now c.args.objects.now c.requires.empty c.requires.fresh);
  frame = frame_none c.args.objects.now;
}
