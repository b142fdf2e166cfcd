-- Where the object ends that stands in each 16 bytes of memory.
use Rattle.std.specs.Prelude.{◌≡◌, ◌+◌, ◌/◌, ◌<◌, ◌≤◌, ◌⊎◌, ℕ, List, length, slice_index}

-- the 16 bytes of each byte of an object, and of the one behind it, have its end: the address behind its last byte
abbrev pub HasEnd : List ℕ → ℕ → ℕ → Type 0
HasEnd ends addr size = (k : ℕ) → k ≤ size → slice_index ends ((addr + k) / 16) ≡ addr + size

-- an address is null, or an end stands for it
abbrev pub IsKnown : List ℕ → ℕ → Type 0
IsKnown ends addr = (addr ≡ 0) ⊎ (0 < slice_index ends (addr / 16))

-- as many ends as before, and those that are not of an object of a size at an address are the same
pub record ChangesEnds (before after : List ℕ) (addr size : ℕ) : Type 0 where
  pub long : length after ≡ length before
  pub below : (n : ℕ) → n < addr / 16 → slice_index after n ≡ slice_index before n
  pub above : (n : ℕ) → (addr + size) / 16 < n → slice_index after n ≡ slice_index before n
