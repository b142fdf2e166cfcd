-- Blocks that stand one behind the other.
use Rattle.std.specs.Prelude.{◌≡◌, ℕ, ◌+◌, List, [], ◌∷◌, Contains, sum_by}
use Rattle.hs_base.specs.Place.{Block}
use Rattle.hs_base.specs.Trace.{Event, Gone}

-- the blocks stand one behind the other with no gap, the first at a place
abbrev pub StandInRow : ℕ → List Block → Type 0
StandInRow place [] = Unit {0}
StandInRow place (b ∷ held) = (b.place ≡ place) × StandInRow (place + b.length) held

-- the bytes of these blocks together
abbrev pub row_length : List Block → ℕ
row_length held = sum_by (λ (b : Block). b.length) held

-- no block is given back
abbrev pub GivesNoneBack : List Event → Type 0
GivesNoneBack events = (birth : ℕ) → ¬ Contains events (Gone birth)
