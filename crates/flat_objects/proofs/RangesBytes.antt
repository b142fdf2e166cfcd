-- Bytes that are written into an object.
use Rattle.std.proofs.Common.{◌≡◌, ◌<◌, ◌≤◌, ◌+◌, ◌-◌, ◌∙◌, inl, inr, ℕ, List, ◌++◌, length, length-append, length-take, get_or, get_or-take, get_or-drop, take, drop, sym, ap, arith}
use Rattle.std.proofs.lemmas.Bool.{cases_lt}
use Rattle.std.proofs.lemmas.Slice.{drop-append-drop}
use Rattle.hs_base.specs.Access.{overlaid}
use Rattle.byte_memory.specs.Bytes.{part}
use Rattle.heap_blocks.specs.Bytes.{ChangesOnly}
use Rattle.hs_base.specs.AccessEquations.{at_before, at_behind, at_inside, overlaid_len}
use Rattle.byte_memory.specs.BytesEquations.{part_before_new}

-- a byte of a part
pub part_byte : (bytes : List ℕ) (addr n k : ℕ) → k < n → get_or (part bytes addr n) k 0 ≡ get_or bytes (addr + k) 0
unfolding part
part_byte bytes addr n k less = get_or-take n (drop addr bytes) k 0 less ∙ get_or-drop addr bytes k 0

module _ (bytes : List ℕ) (at : ℕ) (new : List ℕ) (inside : at + length new ≤ length bytes) where
  past_same : (from k : ℕ) → at + length new ≤ from → part (overlaid bytes at new) from k ≡ part bytes from k
  unfolding part
  past_same from k past =
      ap (take k) (drop-append-drop (at + length new) bytes (take at bytes ++ new) from past (length-append (take at bytes) new ∙ omega (arith, length-take at bytes)))

  -- bytes around the written ones are all that changes
  pub changes_over : (start long : ℕ) → start ≤ at → at + length new ≤ start + long → ChangesOnly bytes (overlaid bytes at new) start long
  changes_over start long low high = record {
    long = overlaid_len bytes at new inside;
    below = λ from k less. part_before_new bytes at new inside from k (omega arith);
    above = λ from k past. past_same from k (omega arith);
  }

-- as many bytes are written to memory and to the bytes of an object
pub written_over : (bytes own : List ℕ) (start at : ℕ) (into new : List ℕ) (k : ℕ) → start + length own ≤ length bytes → at + length new ≤ length own → length into ≡ length new → k < length own
    → get_or bytes (start + k) 0 ≡ get_or own k 0 → ((j : ℕ) → j < length new → k ≡ at + j → get_or into j 0 ≡ get_or new j 0) → get_or (overlaid bytes (start + at) into) (start + k) 0 ≡ get_or (overlaid own at new) k 0
written_over bytes own start at into new k inside fits many less same alike =
    let room : start + at + length into ≤ length bytes = omega arith in
    elim (cases_lt k at) [
      | inl low ↦ at_before bytes (start + at) into room (start + k) 0 (omega arith) ∙ same ∙ sym (at_before own at new fits k 0 low)
      | inr high ↦ elim (cases_lt k (at + length new)) [
        | inr past ↦ at_behind bytes (start + at) into room (start + k) 0 (omega arith) ∙ same ∙ sym (at_behind own at new fits k 0 past)
        | inl within ↦
            let j = k - at in
            let here : k ≡ at + j = omega arith in
            let there : start + k ≡ start + at + j = omega arith in
            ap (λ i. get_or (overlaid bytes (start + at) into) i 0) there ∙ at_inside bytes (start + at) into room j 0 (omega arith) ∙ alike j (omega arith) here
            ∙ sym (at_inside own at new fits j 0 (omega arith)) ∙ ap (λ i. get_or (overlaid own at new) i 0) (sym here)
      ]
    ]
