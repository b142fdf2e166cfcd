-- The granules whose count is above 255, each with its excess: what the count exceeds 255 by.
use Rattle.std.specs.Prelude.{◌++◌, ◌<◌, ◌==◌, ℕ, List, [], ◌∷◌, All, AllPairs, filter, if◌then◌else◌, nat_le, nat_lt, sum_by}

-- the pairs of a granule and its excess, and how many pairs there may be
pub record Pairs : Type 0 where
  pub list : List (ℕ × ℕ)
  pub room : ℕ

-- pairs ascending by granule, each with some excess
pub record IsAscending (pairs : List (ℕ × ℕ)) : Type 0 where
  pub ascending : AllPairs (λ p q. p.0 < q.0) pairs
  pub some : All (λ p. 0 < p.1) pairs

-- the excess of a granule, 0 where it has no pair
abbrev pub excess_at : List (ℕ × ℕ) → ℕ → ℕ
excess_at pairs granule = sum_by (λ p. p.1) (filter (λ p. p.0 == granule) pairs)

-- the pair of a granule, if it has any excess
abbrev pub pair_of : ℕ → ℕ → List (ℕ × ℕ)
pair_of granule excess = if nat_lt 0 excess then (granule, excess) ∷ [] else []

-- pairs with another excess of one granule: those of lower granules, its own, those of higher granules
abbrev pub with_excess : List (ℕ × ℕ) → ℕ → ℕ → List (ℕ × ℕ)
with_excess pairs granule excess =
    filter (λ p. nat_lt p.0 granule) pairs ++ (pair_of granule excess ++ filter (λ p. nat_lt granule p.0) pairs)

-- the pairs of the granules from one up to another
abbrev pub pairs_within : List (ℕ × ℕ) → ℕ → ℕ → List (ℕ × ℕ)
pairs_within pairs first end = filter (λ p. nat_le first p.0) (filter (λ p. nat_lt p.0 end) pairs)
