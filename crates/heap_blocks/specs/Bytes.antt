-- What a change of bytes leaves.
use Rattle.std.specs.Prelude.{◌≡◌, ℕ, ◌+◌, ◌≤◌, List, length}
use Rattle.byte_memory.specs.Bytes.{part}

-- as many bytes as before, and those outside n bytes from an address are the same
pub record ChangesOnly (before after : List ℕ) (addr n : ℕ) : Type 0 where
  pub long : length after ≡ length before
  pub below : (from k : ℕ) → from + k ≤ addr → part after from k ≡ part before from k
  pub above : (from k : ℕ) → addr + n ≤ from → part after from k ≡ part before from k
