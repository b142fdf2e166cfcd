-- Marks that are searched and set.
use Rattle.std.specs.Prelude.{◌≡◌, ℕ, ◌+◌, ◌<◌, ◌≤◌, List, length, Some, slice_get}
use Rattle.heap_blocks.specs.declared.marks.Mark.{Mark}
use Rattle.heap_blocks.specs.declared.marks.Mark.TheVariants.{Free}

-- so many marks from a place on are there, and free
pub record IsFreeRun (marks : List Mark) (from count : ℕ) : Type 0 where
  pub inside : from + count ≤ length marks
  pub free : (k : ℕ) → from ≤ k → k < from + count → slice_get marks k ≡ Some Free

abbrev pub HasNoRun : List Mark → ℕ → Type 0
HasNoRun marks count = (from : ℕ) → ¬ IsFreeRun marks from count

-- a free run, and none begins below it
pub record IsFirstRun (marks : List Mark) (count from : ℕ) : Type 0 where
  pub run : IsFreeRun marks from count
  pub first : (below : ℕ) → below < from → ¬ IsFreeRun marks below count

-- as many marks as before; so many from a place on are the given one, and the others are the same
pub record Filled (before after : List Mark) (from count : ℕ) (mark : Mark) : Type 0 where
  pub long : length after ≡ length before
  pub inside : (k : ℕ) → from ≤ k → k < from + count → slice_get after k ≡ Some mark
  pub below : (k : ℕ) → k < from → slice_get after k ≡ slice_get before k
  pub above : (k : ℕ) → from + count ≤ k → slice_get after k ≡ slice_get before k
