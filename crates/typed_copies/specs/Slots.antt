-- The slots of an object that lie within a range of its bytes.
use Rattle.std.specs.Prelude.{◌≡◌, ◌+◌, ◌-◌, ◌<◌, ◌≤◌, ◌&&◌, ◌||◌, ℕ, Bool, not, nat_eq, List, length, slice_index}
use Rattle.hs_base.specs.Access.{cuts_slot, distances, same_numbers, slots_within}
use Rattle.typed_copies.specs.declared.slots.Within.{Within}

-- so many slots begin below an offset, and the others at it or behind it
pub record Splits (slots : List ℕ) (offset number : ℕ) : Type 0 where
  pub inside : number ≤ length slots
  pub below : (k : ℕ) → k < number → slice_index slots k < offset
  pub above : (k : ℕ) → number ≤ k → k < length slots → offset ≤ slice_index slots k

-- these slots lie whole within n bytes from an offset, those before them end before the range, and the others begin behind it
pub record AreWithin (slots : List ℕ) (offset n : ℕ) (within : Within) : Type 0 where
  pub inside : within.first + within.count ≤ length slots
  pub before : (k : ℕ) → k < within.first → slice_index slots k + 4 ≤ offset
  pub low : (k : ℕ) → k < within.count → offset ≤ slice_index slots (within.first + k)
  pub high : (k : ℕ) → k < within.count → slice_index slots (within.first + k) + 4 ≤ offset + n
  pub behind : (k : ℕ) → within.first + within.count ≤ k → k < length slots → offset + n ≤ slice_index slots k

-- no slot is cut by either range, and the slots within them stand at the same distances
abbrev pub slots_agree : List ℕ → ℕ → List ℕ → ℕ → ℕ → Bool
slots_agree d to s from n =
    not (cuts_slot d to n) && not (cuts_slot s from n) && same_numbers (distances d to n) (distances s from n)

-- no slot is cut, and a slot lies within the range only where the byte is 0
abbrev pub slots_allow : List ℕ → ℕ → ℕ → ℕ → Bool
slots_allow slots offset byte n = not (cuts_slot slots offset n) && (nat_eq byte 0 || nat_eq (length (slots_within slots offset n)) 0)

-- as many slots of one object as of another, each at the same distance from an offset
pub record AtSameDistances (d : List ℕ) (to : ℕ) (into : Within) (s : List ℕ) (from : ℕ) (out : Within) : Type 0 where
  pub many : out.count ≡ into.count
  pub same : (k : ℕ) → k < into.count → slice_index d (into.first + k) - to ≡ slice_index s (out.first + k) - from

-- the slots within a range of the destination are these, and as many within one of the source stand at the same distances
pub record Correspond (d : List ℕ) (to : ℕ) (s : List ℕ) (from n : ℕ) (into : Within) : Type 0 where
  pub out : Within
  pub written : AreWithin d to n into
  pub read : AreWithin s from n out
  pub same : AtSameDistances d to into s from out
