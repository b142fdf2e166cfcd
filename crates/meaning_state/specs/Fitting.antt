-- The heap as it is between two statements: which blocks are held, and what fits beside them.
use Rattle.std.specs.Prelude.{ℕ, ◌+◌, ◌-◌, ◌/◌, ◌≤◌, ◌⊎◌, Bool, List, [], Option}
use Rattle.hs_base.specs.Place.{Block, blocks_after, fits_beside, lowest_free}
use Rattle.hs_base.specs.Trace.{Event}

-- a heap of so many bytes, and the blocks that are held in it
pub record Held : Type 0 where
  pub heap : ℕ
  pub blocks : List Block

-- none yet
abbrev pub none_held : ℕ → Held
none_held heap = record { heap = heap; blocks = [] }

-- those behind some events
abbrev pub held_after : Held → List Event → Held
held_after held events = record { heap = held.heap; blocks = blocks_after held.heap held.blocks events }

-- has a new object of that size a place?
abbrev pub fits_in : Held → ℕ → Bool
fits_in held size = fits_beside held.heap held.blocks size

-- the lowest free place for a block of a length from a place on
abbrev pub lowest_from : Held → ℕ → ℕ → Option ℕ
lowest_from held n place = lowest_free held.blocks held.heap n place (held.heap / 16 + 1 - place / 16)

-- so many bytes at a place overlap no byte of a block
abbrev pub IsApart : ℕ → ℕ → Block → Type 0
IsApart place n b = (place + n ≤ b.place) ⊎ (b.place + b.length ≤ place)
