-- Elements of parts of lists.
use Rattle.std.proofs.Common.{◌≡◌, ◌≤◌, ◌<◌, ◌+◌, ℕ, zero, suc, List, [], ◌∷◌, take, drop, None, refl, ap, ◌∙◌, arith}
use Rattle.std.specs.Prelude.{slice_get}

pub slice_get-drop : {A : Type 0} (n : ℕ) (xs : List A) (k : ℕ) → slice_get (drop n xs) k ≡ slice_get xs (n + k)
slice_get-drop zero xs k = ap (slice_get xs) (omega arith)
slice_get-drop (suc n) [] k = refl
slice_get-drop (suc n) (x ∷ xs) k =
    let at : suc (n + k) ≡ suc n + k = omega arith in
    slice_get-drop n xs k ∙ ap (slice_get (x ∷ xs)) at

pub slice_get-take : {A : Type 0} (n : ℕ) (xs : List A) (k : ℕ) → k < n → slice_get (take n xs) k ≡ slice_get xs k
slice_get-take zero xs k low = absurd (omega arith)
slice_get-take (suc n) [] k low = refl
slice_get-take (suc n) (x ∷ xs) zero low = refl
slice_get-take (suc n) (x ∷ xs) (suc k) low = slice_get-take n xs k (omega arith)

pub slice_get-take_past : {A : Type 0} (n : ℕ) (xs : List A) (k : ℕ) → n ≤ k → slice_get (take n xs) k ≡ None
slice_get-take_past zero xs k high = refl
slice_get-take_past (suc n) [] k high = refl
slice_get-take_past (suc n) (x ∷ xs) zero high = absurd (omega arith)
slice_get-take_past (suc n) (x ∷ xs) (suc k) high = slice_get-take_past n xs k (omega arith)
