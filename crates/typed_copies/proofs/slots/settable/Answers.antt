use Rattle.std.proofs.Common.{◌≡◌, ℕ, Bool, true, false, List, length, sym, ◌∙◌}
use Rattle.std.specs.Prelude.{◌&&◌, ◌||◌, not, nat_eq}
use Rattle.std.proofs.lemmas.Bool.{eq-eqb, ne_eqb, or_from, or_left, or_right}
use Rattle.hs_base.specs.Access.{cuts_slot, slots_within}
use Rattle.adjusters.specs.ObjectSlots.{object_slots}
use Rattle.typed_copies.specs.Slots.{slots_allow}
use Rattle.typed_copies.proofs.Selecting.{many_within}
use Rattle.typed_copies.proofs.slots.settable.Goals as goal
use Rattle.typed_copies.proofs.slots.settable.Goals.{else-byte-ne0-via-then-byte-ne0+else-within-ne0, else-byte-ne0-via-else-byte-ne0}

-- where no slot is cut the byte and the slots within decide
decided : (slots : List ℕ) (offset byte n : ℕ) (b : Bool) → cuts_slot slots offset n ≡ false → (nat_eq byte 0 || nat_eq (length (slots_within slots offset n)) 0) ≡ b → slots_allow slots offset byte n ≡ b
decided slots offset byte n b whole rest = λ i. not (whole i) && rest i

pub returns-then-within-ne0-clause-none : goal.returns-then-within-ne0-clause-none
returns-then-within-ne0-clause-none c =
    let slots = object_slots c.args.form.now c.args.range.size in
    let many = many_within slots c.args.range.offset c.args.n c.in_ok-within.within c.in_ok-within.ensures.some in
    decided slots c.args.range.offset c.args.byte c.args.n false c.in_ok-within.ensures.uncut
    (or_from (nat_eq c.args.byte 0) (nat_eq (length (slots_within slots c.args.range.offset c.args.n)) 0) (ne_eqb c.args.byte 0 c.if-byte-ne0.true) (ne_eqb (length (slots_within slots c.args.range.offset c.args.n)) 0 (λ e. c.if-within-ne0.true (sym many ∙ e))))

pub returns-clause-allow : goal.returns-clause-allow
returns-clause-allow c =
    let slots = object_slots c.args.form.now c.args.range.size in
    let many = many_within slots c.args.range.offset c.args.n c.in_ok-within.within c.in_ok-within.ensures.some in
    let here = nat_eq c.args.byte 0 in
    let there = nat_eq (length (slots_within slots c.args.range.offset c.args.n)) 0 in
    decided slots c.args.range.offset c.args.byte c.args.n true c.in_ok-within.ensures.uncut
    (elim c.else-byte-ne0.branch [
      | else-byte-ne0-via-then-byte-ne0+else-within-ne0 w ↦ or_right here there (eq-eqb (length (slots_within slots c.args.range.offset c.args.n)) 0 (many ∙ w.if-within-ne0.false))
      | else-byte-ne0-via-else-byte-ne0 w ↦ or_left here there (eq-eqb c.args.byte 0 w.if-byte-ne0.false)
    ])
