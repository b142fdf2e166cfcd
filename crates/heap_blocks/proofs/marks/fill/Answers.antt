use Rattle.std.proofs.Common.{◌≡◌, ◌<◌, ◌≤◌, ◌+◌, ◌-◌, ◌∙◌, inl, inr, ℕ, zero, suc, List, [], ◌∷◌, length, set, Some, refl, ap, arith}
use Rattle.std.specs.Prelude.{slice_get}
use Rattle.std.proofs.Math.ListN.{length-set}
use Rattle.std.proofs.lemmas.Bool.{cases_eq}
use Rattle.heap_blocks.specs.declared.marks.Mark.{Mark}
use Rattle.heap_blocks.specs.Runs.{Filled}
use Rattle.heap_blocks.proofs.marks.fill.Goals as goal

got_set : (xs : List Mark) (i : ℕ) (y : Mark) → i < length xs → slice_get (set xs i y) i ≡ Some y
got_set [] i y less = absurd (omega arith)
got_set (x ∷ xs) zero y less = refl
got_set (x ∷ xs) (suc i) y less = got_set xs i y (omega arith)

got_other : (xs : List Mark) (i k : ℕ) (y : Mark) → (k ≡ i → ⊥) → slice_get (set xs i y) k ≡ slice_get xs k
got_other [] i k y differ = refl
got_other (x ∷ xs) zero zero y differ = absurd (differ refl)
got_other (x ∷ xs) zero (suc k) y differ = refl
got_other (x ∷ xs) (suc i) zero y differ = refl
got_other (x ∷ xs) (suc i) (suc k) y differ = got_other xs i k y (λ e. differ (ap suc e))

filled_more : (before after : List Mark) (from place : ℕ) (mark : Mark) → Filled before after from (place - from) mark → from ≤ place → place < length after → Filled before (set after place mark) from (place + 1 - from) mark
filled_more before after from place mark h low less = record {
  long = length-set after place mark ∙ h.long;
  inside = λ k above high. elim (cases_eq k place) [
    | inl e ↦ ap (slice_get (set after place mark)) e ∙ got_set after place mark less
    | inr differ ↦ got_other after place k mark differ ∙ h.inside k above (omega arith)
  ];
  below = λ k under. got_other after place k mark (λ e. omega arith) ∙ h.below k under;
  above = λ k past. got_other after place k mark (λ e. omega arith) ∙ h.above k (omega arith);
}

pub loop-place-preserved : goal.loop-place-preserved
loop-place-preserved c =
    let so_far = c.loop-place.invariant in
    filled_more c.args.marks.now c.loop-place.marks c.args.from c.loop-place.place c.args.mark so_far (omega arith) (omega (arith, so_far.long))
