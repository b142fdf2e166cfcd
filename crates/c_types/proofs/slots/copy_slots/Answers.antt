use Rattle.std.proofs.Common.{arith, ◌≡◌, ◌<◌, length, get_or, ap, ◌∙◌, refl}
use Rattle.std.proofs.lemmas.List.{get_or_append_left}
use Rattle.c_types.proofs.SlotLemmas.{copy_more, range_fits}
use Rattle.c_types.proofs.slots.copy_slots.Goals as goal

pub overflow_add-slot : goal.overflow_add-slot
overflow_add-slot c =
    let slot = c.index.result.now in
    let within : c.loop-place.place < length c.args.slots.now.items = omega arith in
    let at : slot ≡ get_or c.args.slots.now.items c.loop-place.place slot =
    c.index.ensures ∙ (ap (λ l. get_or l c.loop-place.place slot) c.loop-place.invariant ∙ get_or_append_left c.args.slots.now.items _ slot c.loop-place.place within) in
    let fits = range_fits c.args.slots.now.items c.args.start c.args.end c.loop-place.place c.args.by slot 4294967296 (omega arith) c.loop-place-test.true c.requires.end at c.requires.fits in
    omega arith

pub loop-place-preserved : goal.loop-place-preserved
loop-place-preserved c =
    rw c.in_ok-push.ensures.items
    (copy_more c.args.slots.now.items c.loop-place.slots.items _ c.args.start c.loop-place.place c.args.by c.index.result.now
    (omega arith) (omega arith) c.loop-place.invariant c.index.ensures refl)
