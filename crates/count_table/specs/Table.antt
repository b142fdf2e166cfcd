-- Counts of granules, how they are kept in bytes and pairs, and what a change of one of them leaves.
use Rattle.std.specs.Prelude.{◌≡◌, ◌≤◌, ◌<◌, ◌+◌, ◌-◌, ◌/◌, ◌^◌, ℕ, List, filter, map, min, nat_lt, sum, slice_set}
use Rattle.std.specs.List.{enumerate_from}
use Rattle.count_table.specs.Excess.{Pairs, excess_at}

-- the count of each granule, and the greatest sum that they may have
pub record Table : Type 0 where
  pub counts : List ℕ
  pub most : ℕ

-- for each granule, the lesser of its count and 255
abbrev pub lows_of : List ℕ → List ℕ
lows_of counts = map (λ count. min count 255) counts

-- the granules whose count is above 255, ascending, each with its count less 255
abbrev pub excess_of : List ℕ → List (ℕ × ℕ)
excess_of counts = map (λ p. (p.0, p.1 - 255)) (filter (λ p. nat_lt 255 p.1) (enumerate_from 0 counts))

-- the counts that bytes and pairs stand for: each byte and the excess of its granule
abbrev pub counts_of : List ℕ → List (ℕ × ℕ) → List ℕ
counts_of lows pairs = map (λ p. p.1 + excess_at pairs p.0) (enumerate_from 0 lows)

-- what every table is like
pub record IsTable (lows : List ℕ) (excess : Pairs) (most : ℕ) : Type 0 where
  pub low : lows ≡ lows_of (counts_of lows excess.list)
  pub above : excess.list ≡ excess_of (counts_of lows excess.list)
  pub bounded : sum (counts_of lows excess.list) ≤ most
  pub room : excess.room ≡ most / 256
  pub fits : most < 2 ^ 32

-- the table with another count for one granule
abbrev pub with_count : Table → ℕ → ℕ → Table
with_count table granule count = record table { counts = slice_set table.counts granule count }
