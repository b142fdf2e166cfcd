-- Free runs of marks, and first fit over the blocks that are held.
use Rattle.std.proofs.Common.{◌≡◌, ◌≤◌, ◌<◌, ◌+◌, ◌*◌, ◌/◌, ◌⊎◌, inl, inr, ⊎_elim, ℕ, zero, suc, Bool, true, false, List, [], ◌∷◌, length, get_or, Some, None, refl, sym, ap, ◌∙◌, subst, arith}
use Rattle.std.specs.Prelude.{All, nat_le, ◌||◌}
use Rattle.std.specs.List.{list_all}
use Rattle.std.proofs.lemmas.Bool.{cases_lt, and_from, and_parts, or_cases, or_left, or_right, leb-true, le-leb, cond-true, cond-false, false_from_ne_true}
use Rattle.std.proofs.lemmas.List.Elements.{All-nil, All-cons, All-head, All-tail}
use Rattle.std.proofs.lemmas.Option.{same_Some}
use Rattle.hs_base.specs.Place.{Block, block_size, is_free, lowest_free, first_fit}
use Rattle.heap_blocks.specs.declared.marks.Mark.TheVariants.{Free}
use Rattle.heap_blocks.specs.Runs.{IsFreeRun, IsFirstRun, HasNoRun}
use Rattle.heap_blocks.specs.Held.{HeapModel, Holds, IsBlock, IsHeap, fit_of, mark_of}
use Rattle.heap_blocks.proofs.Marking.{IsOut, free_from_out, out_from_free}

-- so many bytes at a place overlap no byte of a block
abbrev pub IsClear : ℕ → ℕ → Block → Type 0
IsClear place n b = (place + n ≤ b.place) ⊎ (b.place + b.length ≤ place)

abbrev pub clears : ℕ → ℕ → Block → Bool
clears place n b = nat_le (place + n) b.place || nat_le (b.place + b.length) place

clears_true : (place n : ℕ) (b : Block) → IsClear place n b → clears place n b ≡ true
clears_true place n b (inl h) = or_left (nat_le (place + n) b.place) (nat_le (b.place + b.length) place) (le-leb (place + n) b.place h)
clears_true place n b (inr h) = or_right (nat_le (place + n) b.place) (nat_le (b.place + b.length) place) (le-leb (b.place + b.length) place h)

clears_only : (place n : ℕ) (b : Block) → clears place n b ≡ true → IsClear place n b
clears_only place n b h =
    ⊎_elim (λ k. inl (leb-true (place + n) b.place k)) (λ k. inr (leb-true (b.place + b.length) place k)) (or_cases (nat_le (place + n) b.place) (nat_le (b.place + b.length) place) h)

pub all_clear : (place n : ℕ) (held : List Block) → All (IsClear place n) held → list_all (clears place n) held ≡ true
all_clear place n [] h = refl
all_clear place n (b ∷ held) h =
    and_from (clears place n b) (list_all (clears place n) held) (clears_true place n b (All-head (IsClear place n) b held h)) (all_clear place n held (All-tail (IsClear place n) b held h))

pub clear_all : (place n : ℕ) (held : List Block) → list_all (clears place n) held ≡ true → All (IsClear place n) held
clear_all place n [] h = All-nil (IsClear place n)
clear_all place n (b ∷ held) h =
    let both = and_parts (clears place n b) (list_all (clears place n) held) h in
    All-cons (IsClear place n) b held (clears_only place n b both.0) (clear_all place n held both.1)

-- where each 16 bytes of a range are outside a block, the range is clear of it
clear_from_out : (len from count : ℕ) (b : Block) → IsBlock len b → ((k : ℕ) → from ≤ k → k < from + count → IsOut (k * 16) b) → 0 < count → IsClear (from * 16) (count * 16) b
clear_from_out len from count b block out some =
    elim (cases_lt b.place (from * 16 + count * 16)) [
      | inr h ↦ inl h
      | inl low ↦ elim (cases_lt (from * 16) (b.place + b.length)) [
        | inr h ↦ inr h
        | inl high ↦ elim (cases_lt (from * 16) b.place) [
          | inl h ↦ elim (out (b.place / 16) (omega (arith, block.aligned)) (omega (arith, block.aligned))) [ inl k ↦ absurd (omega (arith, block.aligned)) | inr k ↦ absurd (omega (arith, block.aligned, block.room)) ]
          | inr h ↦ elim (out from (omega arith) (omega arith)) [ inl k ↦ absurd (omega arith) | inr k ↦ absurd (omega arith) ]
        ]
      ]
    ]

out_from_clear : (from count k : ℕ) (b : Block) → IsClear (from * 16) (count * 16) b → from ≤ k → k < from + count → IsOut (k * 16) b
out_from_clear from count k b (inl h) low high = inl (omega arith)
out_from_clear from count k b (inr h) low high = inr (omega arith)

-- the lowest place that is free
pub lowest_at : (held : List Block) (len n from start more gap : ℕ) → from ≡ start + gap → gap < more → is_free held len n (from * 16) ≡ true → ((k : ℕ) → start ≤ k → k < from → is_free held len n (k * 16) ≡ false)
    → lowest_free held len n (start * 16) more ≡ Some (from * 16)
lowest_at held len n from start zero gap is below free none = absurd (omega arith)
lowest_at held len n from start (suc more) zero is below free none =
    let here : start ≡ from = omega arith in
    cond-true (is_free held len n (start * 16)) (Some (start * 16)) (lowest_free held len n (start * 16 + 16) more)
    (subst (λ k. is_free held len n (k * 16) ≡ true) (sym here) free) ∙ ap (λ k. Some (k * 16)) here
lowest_at held len n from start (suc more) (suc gap) is below free none =
    let next : start * 16 + 16 ≡ (start + 1) * 16 = omega arith in
    cond-false (is_free held len n (start * 16)) (Some (start * 16)) (lowest_free held len n (start * 16 + 16) more) (none start (omega arith) (omega arith))
    ∙ ap (λ k. lowest_free held len n k more) next
    ∙ lowest_at held len n from (start + 1) more gap (omega arith) (omega arith) free (λ k low high. none k (omega arith) high)

pub lowest_none : (held : List Block) (len n start more : ℕ) → ((k : ℕ) → is_free held len n (k * 16) ≡ false) → lowest_free held len n (start * 16) more ≡ None
lowest_none held len n start zero none = refl
lowest_none held len n start (suc more) none =
    let next : start * 16 + 16 ≡ (start + 1) * 16 = omega arith in
    cond-false (is_free held len n (start * 16)) (Some (start * 16)) (lowest_free held len n (start * 16 + 16) more) (none start)
    ∙ ap (λ k. lowest_free held len n k more) next ∙ lowest_none held len n (start + 1) more none

module _ (heap : HeapModel) (held : List Block) (shape : IsHeap heap.base heap.len heap.marks) (holds : Holds heap held) where
  -- a free run is where a block of its length is free
  pub clear_run : (from count : ℕ) → 0 < count → IsFreeRun heap.marks from count → All (IsClear (from * 16) (count * 16)) held
  clear_run from count some run =
      λ i d below. clear_from_out heap.len from count (get_or held i d) (holds.blocks i d below)
      (λ k low high. let marked = holds.marks k (omega (arith, run.inside)) in
      let free : mark_of held (k * 16) ≡ Free = same_Some (mark_of held (k * 16)) Free (sym marked ∙ run.free k low high) in
      out_from_free held (k * 16) free i d below)
      some

  pub run_is_free : (from count : ℕ) → 0 < count → IsFreeRun heap.marks from count → is_free held heap.len (count * 16) (from * 16) ≡ true
  run_is_free from count some run =
      and_from (nat_le (from * 16 + count * 16) heap.len) (list_all (clears (from * 16) (count * 16)) held)
      (le-leb (from * 16 + count * 16) heap.len (omega (arith, run.inside, shape.long)))
      (all_clear (from * 16) (count * 16) held (clear_run from count some run))

  free_is_run : (from count : ℕ) → is_free held heap.len (count * 16) (from * 16) ≡ true → IsFreeRun heap.marks from count
  free_is_run from count free =
      let both = and_parts (nat_le (from * 16 + count * 16) heap.len) (list_all (clears (from * 16) (count * 16)) held) free in
      let within : from * 16 + count * 16 ≤ heap.len = leb-true (from * 16 + count * 16) heap.len both.0 in
      let clear = clear_all (from * 16) (count * 16) held both.1 in
      let inside : from + count ≤ length heap.marks = omega (arith, shape.long) in
      record {
        inside = inside;
        free = λ k low high. holds.marks k (omega arith) ∙ ap Some (free_from_out held (k * 16) (λ i d below. out_from_clear from count k (get_or held i d) (clear i d below) low high));
      }

  not_free : (from count : ℕ) → ¬ IsFreeRun heap.marks from count → is_free held heap.len (count * 16) (from * 16) ≡ false
  not_free from count none =
      false_from_ne_true (is_free held heap.len (count * 16) (from * 16)) (λ free. none (free_is_run from count free))

  pub first_is_fit : (size from : ℕ) → IsFirstRun heap.marks (size / 16 + 3) from → fit_of heap held size ≡ Some (from * 16)
  first_is_fit size from first =
      let count = size / 16 + 3 in
      let length_is : block_size size ≡ count * 16 = omega arith in
      let some : 0 < count = omega arith in
      let zero_is : 0 ≡ 0 * 16 = omega arith in
      ap (λ n. first_fit held heap.len n) length_is
      ∙ ap (λ n. lowest_free held heap.len (count * 16) n (heap.len / 16 + 1)) zero_is
      ∙ lowest_at held heap.len (count * 16) from 0 (heap.len / 16 + 1) from (omega arith) (omega (arith, first.run.inside, shape.long)) (run_is_free from count some first.run) (λ k low high. not_free k count (first.first k high))

  pub none_is_fit : (size : ℕ) → HasNoRun heap.marks (size / 16 + 3) → fit_of heap held size ≡ None
  none_is_fit size none =
      let count = size / 16 + 3 in
      let length_is : block_size size ≡ count * 16 = omega arith in
      let zero_is : 0 ≡ 0 * 16 = omega arith in
      ap (λ n. first_fit held heap.len n) length_is
      ∙ ap (λ n. lowest_free held heap.len (count * 16) n (heap.len / 16 + 1)) zero_is
      ∙ lowest_none held heap.len (count * 16) 0 (heap.len / 16 + 1) (λ k. not_free k count (none k))
