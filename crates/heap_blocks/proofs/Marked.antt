-- Marks of which the last ones are free and not there yet.
use Rattle.std.proofs.Common.{◌≡◌, ◌<◌, ◌≤◌, ◌+◌, ◌-◌, ◌∙◌, ℕ, zero, suc, List, [], ◌∷◌, ◌++◌, inl, inr, length, replicate, Some, refl, sym, ap, arith}
use Rattle.std.specs.Prelude.{slice_get}
use Rattle.std.proofs.lemmas.Bool.{cases_lt}
use Rattle.byte_memory.specs.Filled.{filled_up}
use Rattle.byte_memory.specs.FilledEquations.{length-filled_up}
use Rattle.heap_blocks.specs.declared.marks.Mark.{Mark}
use Rattle.heap_blocks.specs.declared.marks.Mark.TheVariants.{Free, Of}
use Rattle.heap_blocks.specs.Runs.{Filled}

got_first : (xs ys : List Mark) (k : ℕ) → k < length xs → slice_get (xs ++ ys) k ≡ slice_get xs k
got_first [] ys k less = absurd (omega arith)
got_first (x ∷ xs) ys zero less = refl
got_first (x ∷ xs) ys (suc k) less = got_first xs ys k (omega arith)

got_past : (xs others ys : List Mark) (k : ℕ) → length xs ≡ length others → length xs ≤ k → slice_get (xs ++ ys) k ≡ slice_get (others ++ ys) k
got_past [] [] ys k same past = refl
got_past [] (o ∷ others) ys k same past = absurd (omega arith)
got_past (x ∷ xs) [] ys k same past = absurd (omega arith)
got_past (x ∷ xs) (o ∷ others) ys zero same past = absurd (omega arith)
got_past (x ∷ xs) (o ∷ others) ys (suc k) same past = got_past xs others ys k (omega arith) (omega arith)

got_free : (xs : List Mark) (n k : ℕ) → length xs ≤ k → k < length xs + n → slice_get (xs ++ replicate n Free) k ≡ Some Free
got_free [] zero k past less = absurd (omega arith)
got_free [] (suc n) zero past less = refl
got_free [] (suc n) (suc k) past less = got_free [] n k (omega arith) (omega arith)
got_free (x ∷ xs) n zero past less = absurd (omega arith)
got_free (x ∷ xs) n (suc k) past less = got_free xs n k (omega arith) (omega arith)

-- a mark that is there
pub mark_there : (marks : List Mark) (size place : ℕ) → place < length marks → slice_get (filled_up marks size Free) place ≡ slice_get marks place
unfolding filled_up
mark_there marks size place less = got_first marks (replicate (size - length marks) Free) place less

-- one that is not
pub mark_free : (marks : List Mark) (size place : ℕ) → length marks ≤ place → place < size → slice_get (filled_up marks size Free) place ≡ Some Free
unfolding filled_up
mark_free marks size place past less = got_free marks (size - length marks) place past (omega arith)

above_same : (before after : List Mark) (size k : ℕ) → length after ≡ length before → (k < length before → slice_get after k ≡ slice_get before k) → slice_get (filled_up after size Free) k ≡ slice_get (filled_up before size Free) k
unfolding filled_up
above_same before after size k long same = elim (cases_lt k (length before)) [
  | inl less ↦ got_first after (replicate (size - length after) Free) k (omega arith) ∙ same less ∙ sym (got_first before (replicate (size - length before) Free) k less)
  | inr past ↦ ap (λ n. slice_get (after ++ replicate (size - n) Free) k) long ∙ got_past after before (replicate (size - length before) Free) k long (omega arith)
]

-- marks that are set among those that are there
pub filled_there : (before after : List Mark) (size from count : ℕ) (mark : Mark) → from + count ≤ length before → length before ≤ size → Filled before after from count mark → Filled (filled_up before size Free) (filled_up after size Free) from count mark
filled_there before after size from count mark inside few h = record {
  long = length-filled_up after size Free (omega (arith, h.long)) ∙ sym (length-filled_up before size Free few);
  inside = λ k low high. mark_there after size k (omega (arith, h.long)) ∙ h.inside k low high;
  below = λ k less. above_same before after size k h.long (λ _. h.below k less);
  above = λ k past. above_same before after size k h.long (λ _. h.above k past);
}

-- a block's mark is not free
pub not_free : (start : ℕ) → Of start ≡ Free → ⊥
not_free start e = cc
