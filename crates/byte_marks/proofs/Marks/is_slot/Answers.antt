use Rattle.std.proofs.Common.{◌≡◌, ◌≤◌, ◌<◌, ◌∙◌, ℕ, List, length, get_or, sym, ap, subst, arith}
use Rattle.std.proofs.lemmas.Bool.{eqb-true, eq-eqb, ltb-true}
use Rattle.byte_marks.specs.declared.TheConstants.{SLOT}
use Rattle.byte_marks.specs.Marks.{IsSlotAt, MarksModel}
use Rattle.byte_marks.proofs.Padded.{mark_there, no_slot_past, slot_there}
use Rattle.byte_marks.proofs.Marks.is_slot.Goals as goal

pub returns-then-at-marks : goal.returns-then-at-marks
returns-then-at-marks c =
    let marks = c.self.inside.list.items in
    let size = c.self.inside.size in
    let same : c.as_slice-marks.result.now ≡ marks = c.as_slice-marks.ensures.value in
    let inside : c.args.addr < length marks = omega (arith, c.if-at-marks.true, ap length same) in
    let first = ap (λ (l : List ℕ). get_or l c.args.addr 0) same in (
      λ told. subst (λ (m : MarksModel). IsSlotAt m.bytes c.args.addr) c.self.view_is (slot_there marks size c.args.addr c.self.invariant.0 inside (sym first ∙ eqb-true (get_or c.as_slice-marks.result.now c.args.addr 0) SLOT told)),
      λ is. let slot = subst (λ (m : MarksModel). IsSlotAt m.bytes c.args.addr) (sym c.self.view_is) is in eq-eqb (get_or c.as_slice-marks.result.now c.args.addr 0) SLOT (first ∙ sym (mark_there marks size c.args.addr inside) ∙ slot.first),
    )

pub returns-else-at-marks : goal.returns-else-at-marks
returns-else-at-marks c =
    let marks = c.self.inside.list.items in
    let same : c.as_slice-marks.result.now ≡ marks = c.as_slice-marks.ensures.value in
    let past : length marks ≤ c.args.addr = omega (arith, c.if-at-marks.false, ap length same) in (
      λ told. let less = ltb-true c.args.addr (length c.as_slice-marks.result.now) told in absurd (omega (arith, c.if-at-marks.false)),
      λ is. absurd (no_slot_past marks c.self.inside.size c.args.addr c.self.invariant.0 past (subst (λ (m : MarksModel). IsSlotAt m.bytes c.args.addr) (sym c.self.view_is) is)),
    )
