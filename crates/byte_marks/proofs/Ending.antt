-- The ends of an object, of which the last ones may not be there yet.
use Rattle.std.proofs.Common.{◌<◌, ◌≤◌, ◌+◌, ◌-◌, ◌/◌, ◌∙◌, ℕ, List, inl, inr, length, sym, arith}
use Rattle.std.proofs.lemmas.Bool.{cases_lt}
use Rattle.std.proofs.lemmas.List.{get_or_past}
use Rattle.byte_memory.specs.Filled.{filled_up}
use Rattle.byte_memory.specs.FilledEquations.{length-filled_up}
use Rattle.byte_marks.specs.Ends.{ChangesEnds, HasEnd, IsKnown}
use Rattle.byte_marks.specs.Marks.{Filled}
use Rattle.byte_marks.proofs.Padded.{mark_there, mark_nothing, same_there}

module _ (before after : List ℕ) (count start size : ℕ) (few : length before ≤ count) (inside : (start + size) / 16 + 1 ≤ length before) (filled : Filled before after (start / 16) ((start + size) / 16 + 1 - start / 16) (start + size)) where
  pub has_end : HasEnd (filled_up after count 0) start size
  has_end k less =
      mark_there after count ((start + k) / 16) (omega (arith, filled.long)) ∙ filled.inside ((start + k) / 16) (omega arith) (omega arith)

  pub changes_ends : ChangesEnds (filled_up before count 0) (filled_up after count 0) start size
  changes_ends = record {
    long = length-filled_up after count 0 (omega (arith, filled.long)) ∙ sym (length-filled_up before count 0 few);
    below = λ n less. same_there before after count n filled.long (λ _. filled.below n less);
    above = λ n past. same_there before after count n filled.long (λ _. filled.above n (omega arith));
  }

-- an end that is known is there
pub known_there : (ends : List ℕ) (count addr : ℕ) → 0 < length ends → length ends ≤ count → IsKnown (filled_up ends count 0) addr → addr / 16 < length ends
known_there ends count addr some few (inl null) = omega arith
known_there ends count addr some few (inr known) = elim (cases_lt (addr / 16) (length ends)) [
  | inl less ↦ less
  | inr past ↦ elim (cases_lt (addr / 16) count) [
    | inl within ↦ (let none = mark_nothing ends count (addr / 16) past within in absurd (omega arith))
    | inr beyond ↦ (let none = get_or_past (filled_up ends count 0) (addr / 16) 0 (omega (arith, length-filled_up ends count 0 few)) in absurd (omega arith))
  ]
]
