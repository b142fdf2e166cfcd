use Rattle.std.proofs.Common.{◌*◌, arith}
use Rattle.c_types.specs.Layouts.{moved}
use Rattle.meaning_state.proofs.Turns.{flat_more, moved_fit}
use Rattle.meaning_state.proofs.making.element_slots.Goals as goal

pub add_moved-requires : goal.add_moved-requires
add_moved-requires c = rw c.as_slice.ensures (moved_fit c.args.count c.args.element.now.size c.loop-k.k c.args.element.now.slots c.requires.element.slots c.requires.fits (omega arith))

pub loop-k-preserved : goal.loop-k-preserved
loop-k-preserved c =
    let more = flat_more (λ k. moved (k * c.args.element.now.size) c.args.element.now.slots) c.loop-k.k in
    rw (more, ← c.loop-k.invariant, ← c.as_slice.ensures) c.in_ok-add_moved.ensures
