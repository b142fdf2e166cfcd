-- Lists with the same bytes at each place.
use Rattle.std.proofs.Common.{◌≡◌, ◌≢◌, ℕ, suc, ◌+◌, ◌<◌, Bool, true, false, ◌&&◌, bytes_eq, List, [], ◌∷◌, length, get_or, drop, refl, ap, ◌∙◌}
use Rattle.std.proofs.lemmas.List.{drop_more}
use Rattle.c_pre.specs.Macros.{same_by}

and_false : (b : Bool) → false ≡ b && false
and_false true = refl
and_false false = refl

-- lists of different lengths are not the same
pub not_same : {A : Type 0} (bytes : A → List ℕ) (xs ys : List A) → length xs ≢ length ys → false ≡ same_by bytes xs ys
not_same bytes [] [] differ = absurd (differ refl)
not_same bytes [] (y ∷ ys) differ = refl
not_same bytes (x ∷ xs) [] differ = refl
not_same bytes (x ∷ xs) (y ∷ ys) differ =
    and_false (bytes_eq (bytes x) (bytes y)) ∙ ap (λ b. bytes_eq (bytes x) (bytes y) && b) (not_same bytes xs ys (λ e. differ (ap suc e)))

-- one place on
pub same_turn : {A : Type 0} (bytes : A → List ℕ) (xs ys : List A) (i : ℕ) (x y : A) → i < length xs → i < length ys → x ≡ get_or xs i x → y ≡ get_or ys i y → same_by bytes (drop i xs) (drop i ys) ≡ (bytes_eq (bytes x) (bytes y) && same_by bytes (drop (i + 1) xs) (drop (i + 1) ys))
same_turn bytes xs ys i x y within also is are =
    ap (λ t. same_by bytes t (drop i ys)) (drop_more xs i x within) ∙ (ap (λ t. same_by bytes (get_or xs i x ∷ drop (i + 1) xs) t) (drop_more ys i y also)
    ∙ rw (← is, ← are) refl)
