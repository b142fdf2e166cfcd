-- The marks of memory: what stands in each byte.
use Rattle.std.specs.Prelude.{◌≡◌, ◌+◌, ◌/◌, ◌<◌, ◌≤◌, ℕ, cond, List, length, replicate, slice_index}
use Rattle.hs_base.specs.Access.{is_slot, touches_slot}
use Rattle.byte_marks.specs.declared.TheConstants.{NOTHING, BYTE, SLOT, LATER}
use Rattle.byte_marks.specs.Ends.{ChangesEnds, HasEnd}

-- a mark for each byte, and for each 16 bytes the end of the object in them
pub record MarksModel : Type 0 where
  pub bytes : List ℕ
  pub ends : List ℕ

-- those of so many bytes without objects
abbrev pub no_marks : ℕ → MarksModel
no_marks n = record { bytes = replicate n NOTHING; ends = replicate (n / 16 + 1) 0 }

-- the mark of a byte of an object with these slots, by its offset: the first byte of a slot, a later one, or none of a slot
abbrev pub mark_in : List ℕ → ℕ → ℕ
mark_in slots offset = cond (is_slot slots offset) SLOT (cond (touches_slot slots offset 1) LATER BYTE)

-- an object of a size with these slots is marked at an address: its bytes, and that behind its end as none of an object
pub record HasMarks (marks : List ℕ) (addr size : ℕ) (slots : List ℕ) : Type 0 where
  pub bytes : (k : ℕ) → k < size → slice_index marks (addr + k) ≡ mark_in slots k
  pub behind : slice_index marks (addr + size) ≡ NOTHING

-- so it is, and its end stands there
pub record IsMarked (marks : MarksModel) (addr size : ℕ) (slots : List ℕ) : Type 0 where
  pub bytes : HasMarks marks.bytes addr size slots
  pub end : HasEnd marks.ends addr size

-- n bytes from an address on are marked as bytes outside of slots
pub record AreBytes (marks : List ℕ) (addr n : ℕ) : Type 0 where
  pub inside : addr + n ≤ length marks
  pub bytes : (k : ℕ) → k < n → slice_index marks (addr + k) ≡ BYTE

-- the byte at an address is marked as the first of a slot
pub record IsSlotAt (marks : List ℕ) (addr : ℕ) : Type 0 where
  pub inside : addr < length marks
  pub first : slice_index marks addr ≡ SLOT

-- Changes

-- as many marks as before, and those outside n from an address on are the same
pub record ChangesOnly (before after : List ℕ) (addr n : ℕ) : Type 0 where
  pub long : length after ≡ length before
  pub below : (k : ℕ) → k < addr → slice_index after k ≡ slice_index before k
  pub above : (k : ℕ) → addr + n ≤ k → slice_index after k ≡ slice_index before k

-- the marks of an object of a size at an address changed, and those outside it are the same
pub record ChangesMarks (before after : MarksModel) (addr size : ℕ) : Type 0 where
  pub bytes : ChangesOnly before.bytes after.bytes addr (size + 1)
  pub ends : ChangesEnds before.ends after.ends addr size

-- n marks from a place on are set to one, and the others are the same
pub record Filled (before after : List ℕ) (from n mark : ℕ) : Type 0 where
  pub long : length after ≡ length before
  pub inside : (k : ℕ) → from ≤ k → k < from + n → slice_index after k ≡ mark
  pub below : (k : ℕ) → k < from → slice_index after k ≡ slice_index before k
  pub above : (k : ℕ) → from + n ≤ k → slice_index after k ≡ slice_index before k

-- the four marks from a place on are those of a slot, and the others are the same
pub record IsSlotMarked (before after : List ℕ) (at : ℕ) : Type 0 where
  pub first : slice_index after at ≡ SLOT
  pub later : (k : ℕ) → at < k → k < at + 4 → slice_index after k ≡ LATER
  pub outside : ChangesOnly before after at 4
