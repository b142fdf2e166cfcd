-- How many addresses may differ.
use Rattle.std.proofs.Common.{◌≡◌, ◌≢◌, ◌≤◌, ◌<◌, ◌+◌, inl, inr, ℕ, true, List, [], ◌∷◌, length, get_or, arith}
use Rattle.std.specs.Prelude.{All, AllPairs, nat_eq}
use Rattle.std.specs.List.{list_any}
use Rattle.std.proofs.lemmas.Bool.{eqb-true, false≢true, ne_eqb, or_cases}
use Rattle.std.proofs.lemmas.List.Elements.{All-cons, All-head, All-tail}
use Rattle.std.proofs.lemmas.List.Kept.{AllPairs-cons}
use Rattle.std.proofs.lemmas.Map.Keys.{IsDistinct-from_apart}
use Rattle.std.proofs.lemmas.Map.Steps.{length-le_from_distinct_below}

any_below : (n : ℕ) (xs : List ℕ) → All (λ x. x < n) xs → (q : ℕ) → list_any (nat_eq q) xs ≡ true → q < n
any_below n [] below q found = absurd (false≢true found)
any_below n (x ∷ xs) below q found =
    elim (or_cases (nat_eq q x) (list_any (nat_eq q) xs) found) [
      | inl same ↦ let e = eqb-true q x same in let here = All-head (λ x. x < n) x xs below in omega arith
      | inr rest ↦ any_below n xs (All-tail (λ x. x < n) x xs below) q rest
    ]

-- different numbers below n are at most n
length-different : (n : ℕ) (xs : List ℕ) → AllPairs (λ a b. a ≢ b) xs → All (λ x. x < n) xs → length xs ≤ n
length-different n xs different below =
    length-le_from_distinct_below xs n (IsDistinct-from_apart nat_eq xs (λ i j d less within. ne_eqb (get_or xs i d) (get_or xs j d) (different i j d less within))) (any_below n xs below)

-- and there is room for 0 and one more, where neither is among them
pub room_for_more : (n addr : ℕ) (xs : List ℕ) → AllPairs (λ a b. a ≢ b) xs → All (λ x. 0 < x) xs → All (λ x. x < n) xs → All (λ x. addr ≢ x) xs → 0 < addr → addr < n → length xs + 2 ≤ n
room_for_more n addr xs different some below other addr_some addr_below =
    let rest : AllPairs (λ a b. a ≢ b) (addr ∷ xs) = AllPairs-cons (λ a b. a ≢ b) addr xs other different in
    let zero : All (λ x. 0 ≢ x) (addr ∷ xs) =
    All-cons (λ x. 0 ≢ x) addr xs (λ e. omega arith) (λ k d within e. let positive = some k d within in omega arith) in
    let all : AllPairs (λ a b. a ≢ b) (0 ∷ addr ∷ xs) = AllPairs-cons (λ a b. a ≢ b) 0 (addr ∷ xs) zero rest in
    let low : All (λ x. x < n) (0 ∷ addr ∷ xs) = All-cons (λ x. x < n) 0 (addr ∷ xs) (omega arith) (All-cons (λ x. x < n) addr xs addr_below below) in
    let long = length-different n (0 ∷ addr ∷ xs) all low in
    omega arith
