-- Marks of which the last ones are of no object and not there yet.
use Rattle.std.proofs.Common.{◌≡◌, ◌<◌, ◌≤◌, ◌+◌, ◌-◌, ◌∙◌, ℕ, List, inl, inr, length, get_or, replicate, refl, sym, ap, arith}
use Rattle.std.proofs.lemmas.Bool.{cases_lt}
use Rattle.std.proofs.lemmas.List.{get_or_append_left, get_or-append_right, get_or-replicate}
use Rattle.byte_memory.specs.Filled.{filled_up}
use Rattle.byte_memory.specs.FilledEquations.{length-filled_up}
use Rattle.byte_marks.specs.declared.TheConstants.{NOTHING, SLOT}
use Rattle.byte_marks.specs.Marks.{AreBytes, ChangesOnly, HasMarks, IsSlotAt}

-- a mark that is there
pub mark_there : (marks : List ℕ) (size at : ℕ) → at < length marks → get_or (filled_up marks size NOTHING) at 0 ≡ get_or marks at 0
unfolding filled_up
mark_there marks size at less = get_or_append_left marks (replicate (size - length marks) NOTHING) 0 at less

-- one that is not
pub mark_nothing : (marks : List ℕ) (size at : ℕ) → length marks ≤ at → at < size → get_or (filled_up marks size NOTHING) at 0 ≡ NOTHING
unfolding filled_up
mark_nothing marks size at past less =
    get_or-append_right marks (replicate (size - length marks) NOTHING) (length marks) at 0 refl past ∙ get_or-replicate (size - length marks) (at - length marks) NOTHING 0 (omega arith)

pub has_marks_there : (marks : List ℕ) (size addr n : ℕ) (slots : List ℕ) → addr + n < length marks → HasMarks marks addr n slots → HasMarks (filled_up marks size NOTHING) addr n slots
has_marks_there marks size addr n slots inside h = record {
  bytes = λ k less. mark_there marks size (addr + k) (omega arith) ∙ h.bytes k less;
  behind = mark_there marks size (addr + n) inside ∙ h.behind;
}

pub same_there : (before after : List ℕ) (size k : ℕ) → length after ≡ length before → (k < length before → get_or after k 0 ≡ get_or before k 0) → get_or (filled_up after size NOTHING) k 0 ≡ get_or (filled_up before size NOTHING) k 0
unfolding filled_up
same_there before after size k long same = elim (cases_lt k (length before)) [
  | inl less ↦ mark_there after size k (omega arith) ∙ same less ∙ sym (mark_there before size k less)
  | inr past ↦ get_or-append_right after (replicate (size - length after) NOTHING) (length after) k 0 refl (omega arith)
      ∙ ap (λ n. get_or (replicate (size - n) NOTHING) (k - n) 0) long
      ∙ sym (get_or-append_right before (replicate (size - length before) NOTHING) (length before) k 0 refl past)
]

pub changes_there : (before after : List ℕ) (size addr n : ℕ) → length before ≤ size → ChangesOnly before after addr n → ChangesOnly (filled_up before size NOTHING) (filled_up after size NOTHING) addr n
changes_there before after size addr n few h = record {
  long = length-filled_up after size NOTHING (omega (arith, h.long)) ∙ sym (length-filled_up before size NOTHING few);
  below = λ k less. same_there before after size k h.long (λ _. h.below k less);
  above = λ k past. same_there before after size k h.long (λ _. h.above k past);
}

-- bytes that are marked are there, and so is a slot
pub bytes_there : (marks : List ℕ) (size addr n : ℕ) → length marks ≤ size → addr + n ≤ length marks → AreBytes marks addr n → AreBytes (filled_up marks size NOTHING) addr n
bytes_there marks size addr n few inside h = record {
  inside = omega (arith, length-filled_up marks size NOTHING few);
  bytes = λ k less. mark_there marks size (addr + k) (omega arith) ∙ h.bytes k less;
}

pub bytes_back : (marks : List ℕ) (size addr n : ℕ) → addr + n ≤ length marks → AreBytes (filled_up marks size NOTHING) addr n → AreBytes marks addr n
bytes_back marks size addr n inside h = record {
  inside = inside;
  bytes = λ k less. sym (mark_there marks size (addr + k) (omega arith)) ∙ h.bytes k less;
}

pub no_bytes_past : (marks : List ℕ) (size addr n : ℕ) → length marks ≤ size → 0 < n → length marks < addr + n → AreBytes (filled_up marks size NOTHING) addr n → ⊥
no_bytes_past marks size addr n few some past h =
    let last : addr + (n - 1) ≡ addr + n - 1 = omega arith in
    let byte = h.bytes (n - 1) (omega arith) in
    let nothing = mark_nothing marks size (addr + (n - 1)) (omega arith) (omega (arith, h.inside, length-filled_up marks size NOTHING few)) in
    omega arith

pub slot_there : (marks : List ℕ) (size addr : ℕ) → length marks ≤ size → addr < length marks → get_or marks addr 0 ≡ SLOT → IsSlotAt (filled_up marks size NOTHING) addr
slot_there marks size addr few inside first = record {
  inside = omega (arith, length-filled_up marks size NOTHING few);
  first = mark_there marks size addr inside ∙ first;
}

pub no_slot_past : (marks : List ℕ) (size addr : ℕ) → length marks ≤ size → length marks ≤ addr → IsSlotAt (filled_up marks size NOTHING) addr → ⊥
no_slot_past marks size addr few past h =
    let nothing = mark_nothing marks size addr past (omega (arith, h.inside, length-filled_up marks size NOTHING few)) in
    omega (arith, h.first)
