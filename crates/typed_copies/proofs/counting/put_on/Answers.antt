use Rattle.std.proofs.Common.{◌≡◌, ◌+◌, ◌<◌, ◌/◌, ◌∙◌, ℕ, length, get_or, sym, ap, subst, arith}
use Rattle.byte_memory.specs.Bytes.{word}
use Rattle.adjusters.specs.ObjectSlots.{object_slots}
use Rattle.typed_copies.specs.Pointers.{words_in}
use Rattle.typed_copies.proofs.Ascending.{few_slots}
use Rattle.typed_copies.proofs.Worded.{slot_inside, word_in_at, words_in_len}
use Rattle.typed_copies.proofs.Following.{next_comes, still_room}
use Rattle.typed_copies.proofs.counting.put_on.Goals as goal

pub overflow_add-within : goal.overflow_add-within
overflow_add-within g c =
    let few = few_slots c.args.form.now c.args.range.size c.requires.form in
    omega (arith, c.requires.within, c.requires.inside, c.requires.reach)

pub overflow_add-range : goal.overflow_add-range
overflow_add-range g c =
    let ends = slot_inside c.args.form.now c.args.range.size (c.args.within.first + c.loop-k.k) c.requires.form (omega (arith, c.requires.within)) in
    omega (arith, c.slot-slot.ensures.slot, c.requires.inside, c.requires.reach)

pub read-addr-requires-clause-inside : goal.read-addr-requires-clause-inside
read-addr-requires-clause-inside g c =
    let ends = slot_inside c.args.form.now c.args.range.size (c.args.within.first + c.loop-k.k) c.requires.form (omega (arith, c.requires.within)) in
    omega (arith, c.slot-slot.ensures.slot, c.requires.inside)

pub add_one-requires-clause-granule : goal.add_one-requires-clause-granule
add_one-requires-clause-granule g c =
    let slots = object_slots c.args.form.now c.args.range.size in
    let ws = words_in c.args.bytes.now c.args.range.start slots c.args.within in
    let here : get_or ws c.loop-k.k 0 ≡ c.read-addr.result =
    word_in_at c.args.bytes.now c.args.range.start slots c.args.within c.loop-k.k c.requires.within c.loop-k-test.true
    ∙ ap (λ s. word c.args.bytes.now (c.args.range.start + s) 4) (sym c.slot-slot.ensures.slot) ∙ sym c.read-addr.ensures.value in
    let inside = c.requires.granules c.loop-k.k 0 (let len = words_in_len c.args.bytes.now c.args.range.start slots c.args.within c.requires.within in omega (arith, c.loop-k-test.true)) in
    subst (λ (w : ℕ). w / 16 < length c.loop-k.counts.counts) here (omega (arith, inside, c.loop-k.invariant.follow.long))

pub add_one-requires-clause-room : goal.add_one-requires-clause-room
add_one-requires-clause-room g c = λ some.
    let slots = object_slots c.args.form.now c.args.range.size in
    let ws = words_in c.args.bytes.now c.args.range.start slots c.args.within in
    let here : c.read-addr.result ≡ get_or ws c.loop-k.k 0 =
    c.read-addr.ensures.value ∙ ap (λ s. word c.args.bytes.now (c.args.range.start + s) 4) c.slot-slot.ensures.slot
    ∙ sym (word_in_at c.args.bytes.now c.args.range.start slots c.args.within c.loop-k.k c.requires.within c.loop-k-test.true) in
    still_room c.args.counts.now c.loop-k.counts ws c.loop-k.k (let len = words_in_len c.args.bytes.now c.args.range.start slots c.args.within c.requires.within in omega (arith, c.loop-k-test.true)) c.loop-k.invariant.follow c.requires.room (omega arith)

pub loop-k-preserved : goal.loop-k-preserved
loop-k-preserved g c =
    let slots = object_slots c.args.form.now c.args.range.size in
    let ws = words_in c.args.bytes.now c.args.range.start slots c.args.within in
    let here : c.read-addr.result ≡ get_or ws c.loop-k.k 0 =
    c.read-addr.ensures.value ∙ ap (λ s. word c.args.bytes.now (c.args.range.start + s) 4) c.slot-slot.ensures.slot
    ∙ sym (word_in_at c.args.bytes.now c.args.range.start slots c.args.within c.loop-k.k c.requires.within c.loop-k-test.true) in
    record {
      follow = next_comes c.args.counts.now c.loop-k.counts c.add_one.new.counts ws c.loop-k.k c.read-addr.result (let len = words_in_len c.args.bytes.now c.args.range.start slots c.args.within c.requires.within in omega (arith, c.loop-k-test.true)) here c.loop-k.invariant.follow c.add_one.ensures.follow;
      work = omega (arith, c.loop-k.invariant.work, c.read-addr.ensures.step, c.add_one.ensures.work);
    }
