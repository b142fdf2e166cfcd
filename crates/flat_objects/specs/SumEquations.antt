-- Sums over lists that are joined, mapped, or weighed alike.
use Rattle.std.proofs.Common.{◌≡◌, ◌<◌, ◌+◌, ℕ, suc, List, [], ◌∷◌, length, get_or, map, sum_by, refl, sym, ap, ◌∙◌, suc-le-suc, zero-lt-suc}
use Rattle.std.specs.List.{flat_map}
use Rattle.std.proofs.lemmas.List.Sums.{sum_by-cons, sum_by-append}

pub sum_flat : {X Y : Type 0} (w : Y → ℕ) (f : X → List Y) (xs : List X) → sum_by w (flat_map f xs) ≡ sum_by (λ x. sum_by w (f x)) xs
sum_flat w f [] = refl
sum_flat w f (x ∷ xs) =
    sum_by-append w (f x) (flat_map f xs) ∙ ap (λ n. sum_by w (f x) + n) (sum_flat w f xs)
    ∙ sym (sum_by-cons (λ x. sum_by w (f x)) x xs)

-- two sums with the same of each item
pub sum_same : {X : Type 0} (f g : X → ℕ) (xs : List X) → ((k : ℕ) (d : X) → k < length xs → f (get_or xs k d) ≡ g (get_or xs k d)) → sum_by f xs ≡ sum_by g xs
sum_same f g [] each = refl
sum_same f g (x ∷ xs) each =
    let first : f x ≡ g x = each 0 x (zero-lt-suc (length xs)) in
    let rest = sum_same f g xs (λ k d less. each (suc k) d (suc-le-suc less)) in
    sum_by-cons f x xs ∙ (λ i. first i + rest i) ∙ sym (sum_by-cons g x xs)

pub sum_mapped : {X Y : Type 0} (w : Y → ℕ) (f : X → Y) (xs : List X) → sum_by w (map f xs) ≡ sum_by (λ x. w (f x)) xs
sum_mapped w f [] = refl
sum_mapped w f (x ∷ xs) =
    sum_by-cons w (f x) (map f xs) ∙ ap (λ n. w (f x) + n) (sum_mapped w f xs) ∙ sym (sum_by-cons (λ x. w (f x)) x xs)
