use Rattle.std.proofs.Common.{◌+◌, ◌-◌, ◌/◌, ◌<◌, ◌≤◌, inl, inr, ℕ, List, length, get_or, ap, arith}
use Rattle.std.proofs.lemmas.Bool.{cases_order}
use Rattle.adjusters.specs.ObjectSlots.{object_slots}
use Rattle.typed_copies.proofs.Ascending.{Ascend, object_has_slots, slots_apart}
use Rattle.typed_copies.proofs.slots.slots_below.Goals as goal

-- slots up to one below an offset begin below it, and those from one at it or behind it on do not
below_too : (size : ℕ) (slots : List ℕ) (m offset : ℕ) → Ascend 0 size slots → m < length slots → get_or slots m 0 < offset → (k : ℕ) → k ≤ m → get_or slots k 0 < offset
below_too size slots m offset ascend inside below k less =
    elim (cases_order k m) [
      | inl e ↦ let same = ap (λ i. get_or slots i 0) e in omega arith
      | inr (inl before) ↦ let apart = slots_apart 0 size slots k m 0 ascend before inside in omega arith
      | inr (inr behind) ↦ absurd (omega arith)
    ]

above_too : (size : ℕ) (slots : List ℕ) (m offset : ℕ) → Ascend 0 size slots → offset ≤ get_or slots m 0 → (k : ℕ) → m ≤ k → k < length slots → offset ≤ get_or slots k 0
above_too size slots m offset ascend above k more inside =
    elim (cases_order m k) [
      | inl e ↦ let same = ap (λ i. get_or slots i 0) e in omega arith
      | inr (inl before) ↦ let apart = slots_apart 0 size slots m k 0 ascend before inside in omega arith
      | inr (inr behind) ↦ absurd (omega arith)
    ]

pub loop-low-preserved-then-slot-offset : goal.loop-low-preserved-then-slot-offset
loop-low-preserved-then-slot-offset c =
    let slots = object_slots c.args.form.now c.args.size in
    let m = c.loop-low.low + (c.loop-low.high - c.loop-low.low) / 2 in
    let within = c.loop-low.invariant.inside in
    let here : get_or slots m 0 < c.args.offset = omega (arith, c.slot.ensures.slot, c.if-slot-offset.true) in
    record {
      order = omega arith;
      inside = within;
      below = λ k less. below_too c.args.size slots m c.args.offset (object_has_slots c.args.form.now c.args.size c.requires) (omega arith) here k (omega arith);
      above = c.loop-low.invariant.above;
    }

pub loop-low-preserved : goal.loop-low-preserved
loop-low-preserved c =
    let slots = object_slots c.args.form.now c.args.size in
    let m = c.loop-low.low + (c.loop-low.high - c.loop-low.low) / 2 in
    let within = c.loop-low.invariant.inside in
    let here : c.args.offset ≤ get_or slots m 0 = omega (arith, c.slot.ensures.slot, c.if-slot-offset.false) in
    record {
      order = omega arith;
      inside = omega arith;
      below = c.loop-low.invariant.below;
      above = λ k more inside. above_too c.args.size slots m c.args.offset (object_has_slots c.args.form.now c.args.size c.requires) here k more inside;
    }
