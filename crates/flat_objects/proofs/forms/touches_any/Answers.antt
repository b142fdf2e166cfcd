use Rattle.std.proofs.Common.{◌≡◌, inl, inr, subst, arith}
use Rattle.std.specs.Prelude.{Contains}
use Rattle.std.proofs.lemmas.Bool.{cases_lt}
use Rattle.adjusters.specs.ObjectSlots.{object_slots}
use Rattle.flat_objects.proofs.Touching.{told_not, found_none}
use Rattle.flat_objects.proofs.forms.touches_any.Goals as goal

pub loop-slot-preserved : goal.loop-slot-preserved
loop-slot-preserved c = λ k low high at.
    let slots = object_slots c.args.form.now c.args.size in
    elim (cases_lt k c.loop-slot.slot) [
      | inl h ↦ c.loop-slot.invariant k low h at
      | inr h ↦ let e : k ≡ c.loop-slot.slot = omega arith in told_not c.is_slot.result (Contains slots c.loop-slot.slot) c.is_slot.ensures c.if-is_slot.false (subst (Contains slots) e at)
    ]

pub returns : goal.returns
returns c =
    found_none (object_slots c.args.form.now c.args.size) c.args.offset c.args.n (λ slot low high at. c.loop-slot.invariant slot low (omega arith) at)
