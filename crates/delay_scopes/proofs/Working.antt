-- The steps of a check.
use Rattle.std.proofs.Common.{◌≡◌, ◌≤◌, ◌+◌, ◌*◌, ℕ, List, [], ◌∷◌, length, refl, arith}
use Rattle.std.specs.List.{sum_by}
use Rattle.std.proofs.lemmas.List.Sums.{sum_by-cons}

-- sums of terms that are sums
pub sum_by_both : (f g h : ℕ → ℕ) → ((x : ℕ) → f x + g x ≡ h x) → (xs : List ℕ) → sum_by f xs + sum_by g xs ≡ sum_by h xs
sum_by_both f g h same [] = refl
sum_by_both f g h same (x ∷ xs) =
    omega (arith, sum_by-cons f x xs, sum_by-cons g x xs, sum_by-cons h x xs, same x, sum_by_both f g h same xs)

-- so much more for each item
pub sum_by_room : (n : ℕ) (f g : ℕ → ℕ) → ((x : ℕ) → f x + n ≤ g x) → (xs : List ℕ) → sum_by f xs + n * length xs ≤ sum_by g xs
sum_by_room n f g more [] = omega arith
sum_by_room n f g more (x ∷ xs) =
    omega (arith, sum_by-cons f x xs, sum_by-cons g x xs, more x, sum_by_room n f g more xs)
