use Rattle.std.proofs.Common.{◌≡◌, ◌+◌, ◌<◌, ◌/◌, ◌∙◌, ℕ, get_or, sym, ap, subst, arith}
use Rattle.byte_memory.specs.Bytes.{word}
use Rattle.adjusters.specs.ObjectSlots.{object_slots}
use Rattle.typed_copies.specs.Pointers.{words_in}
use Rattle.typed_copies.proofs.Ascending.{few_slots}
use Rattle.typed_copies.proofs.Worded.{slot_inside, word_in_at, words_in_len}
use Rattle.typed_copies.proofs.Following.{next_goes, still_counted}
use Rattle.typed_copies.proofs.counting.take_off.Goals as goal

pub overflow_add-within : goal.overflow_add-within
overflow_add-within g c =
    let few = few_slots c.args.form.now c.args.range.size c.requires.form in
    omega (arith, c.requires.within, c.requires.inside, c.requires.reach)

pub overflow_add-range : goal.overflow_add-range
overflow_add-range g c =
    let ends = slot_inside c.args.form.now c.args.range.size (c.args.within.first + c.loop-k.k) c.requires.form (omega (arith, c.requires.within)) in
    omega (arith, c.slot-slot.ensures.slot, c.requires.inside, c.requires.reach)

pub read-addr-requires-clause-inside : goal.read-addr-requires-clause-inside
read-addr-requires-clause-inside g c =
    let ends = slot_inside c.args.form.now c.args.range.size (c.args.within.first + c.loop-k.k) c.requires.form (omega (arith, c.requires.within)) in
    omega (arith, c.slot-slot.ensures.slot, c.requires.inside)

pub take_one-requires : goal.take_one-requires
take_one-requires g c =
    let slots = object_slots c.args.form.now c.args.range.size in
    let ws = words_in c.args.bytes.now c.args.range.start slots c.args.within in
    let here : get_or ws c.loop-k.k 0 ≡ c.read-addr.result =
    word_in_at c.args.bytes.now c.args.range.start slots c.args.within c.loop-k.k c.requires.within c.loop-k-test.true
    ∙ ap (λ s. word c.args.bytes.now (c.args.range.start + s) 4) (sym c.slot-slot.ensures.slot) ∙ sym c.read-addr.ensures.value in
    subst (λ (w : ℕ). 0 < w → 0 < get_or c.loop-k.counts.counts (w / 16) 0) here
    (still_counted c.args.counts.now c.loop-k.counts ws c.loop-k.k (let len = words_in_len c.args.bytes.now c.args.range.start slots c.args.within c.requires.within in omega (arith, c.loop-k-test.true)) c.loop-k.invariant.follow c.requires.covered)

pub loop-k-preserved : goal.loop-k-preserved
loop-k-preserved g c =
    let slots = object_slots c.args.form.now c.args.range.size in
    let ws = words_in c.args.bytes.now c.args.range.start slots c.args.within in
    let here : c.read-addr.result ≡ get_or ws c.loop-k.k 0 =
    c.read-addr.ensures.value ∙ ap (λ s. word c.args.bytes.now (c.args.range.start + s) 4) c.slot-slot.ensures.slot
    ∙ sym (word_in_at c.args.bytes.now c.args.range.start slots c.args.within c.loop-k.k c.requires.within c.loop-k-test.true) in
    record {
      follow = next_goes c.args.counts.now c.loop-k.counts c.take_one.new.counts ws c.loop-k.k c.read-addr.result (let len = words_in_len c.args.bytes.now c.args.range.start slots c.args.within c.requires.within in omega (arith, c.loop-k-test.true)) here c.loop-k.invariant.follow c.take_one.ensures.follow;
      work = omega (arith, c.loop-k.invariant.work, c.read-addr.ensures.step, c.take_one.ensures.work);
    }
