-- Where heap objects are placed: by first fit over the blocks that are held.
use Rattle.std.specs.Prelude.{ℕ, zero, suc, ◌+◌, ◌*◌, ◌/◌, Bool, cond, not, ◌&&◌, ◌||◌, is_some, nat_le, nat_eq, List, [], ◌∷◌, ◌++◌, filter, Option, Some, None}
use Rattle.std.specs.List.{list_all}
use Rattle.hs_base.specs.Trace.{Event, New, Gone}

abbrev pub rounded_up : ℕ → ℕ
rounded_up n = (n + 15) / 16 * 16

-- the bytes of a block for an object of that size: a header of 32, the object and one byte more, rounded up to 16
abbrev pub block_size : ℕ → ℕ
block_size size = 32 + rounded_up (size + 1)

-- a block of that birth, at a place, of a length
pub record Block : Type 0 where
  pub birth : ℕ
  pub place : ℕ
  pub length : ℕ

-- does a block at that place end within the heap and overlap no held block?
abbrev pub is_free : List Block → ℕ → ℕ → ℕ → Bool
is_free held heap length place =
    nat_le (place + length) heap && list_all (λ (b : Block). nat_le (place + length) b.place || nat_le (b.place + b.length) place) held

-- the lowest free place from one on, by steps of 16, of so many places
abbrev pub lowest_free : List Block → ℕ → ℕ → ℕ → ℕ → Option ℕ
lowest_free held heap length place zero = None
lowest_free held heap length place (suc more) =
    cond (is_free held heap length place) (Some place) (lowest_free held heap length (place + 16) more)

-- first fit: the lowest multiple of 16 that is free for a block of that length
abbrev pub first_fit : List Block → ℕ → ℕ → Option ℕ
first_fit held heap length = lowest_free held heap length 0 (heap / 16 + 1)

abbrev pub with_block : List Block → ℕ → ℕ → Option ℕ → List Block
with_block held birth length None = held
with_block held birth length (Some place) = held ++ record { birth = birth; place = place; length = length } ∷ []

abbrev pub without_block : List Block → ℕ → List Block
without_block held birth = filter (λ (b : Block). not (nat_eq b.birth birth)) held

-- the blocks that some events leave, from those held before them
abbrev pub blocks_after : ℕ → List Block → List Event → List Block
blocks_after heap held [] = held
blocks_after heap held (New birth size line ∷ events) =
    blocks_after heap (with_block held birth (block_size size) (first_fit held heap (block_size size))) events
blocks_after heap held (Gone birth ∷ events) = blocks_after heap (without_block held birth) events
blocks_after heap held (_ ∷ events) = blocks_after heap held events

-- the place of a new object of that size after a trace, if there is one
abbrev pub place_after : ℕ → List Event → ℕ → Option ℕ
place_after heap trace size = first_fit (blocks_after heap [] trace) heap (block_size size)

-- is there one?
abbrev pub has_place : ℕ → List Event → ℕ → Bool
has_place heap trace size = is_some (place_after heap trace size)

-- is there one beside some blocks?
abbrev pub fits_beside : ℕ → List Block → ℕ → Bool
fits_beside heap held size = is_some (first_fit held heap (block_size size))
