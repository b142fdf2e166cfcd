-- A row of granules, as the list that says of each whether it is taken.
use Rattle.std.specs.Prelude.{◌≡◌, ℕ, ◌+◌, ◌<◌, ◌≤◌, Bool, false, List, length, Some, slice_get}

-- n granules from a place on are there, and all of them are taken, or none
pub record IsRun (row : List Bool) (place n : ℕ) (taken : Bool) : Type 0 where
  pub inside : place + n ≤ length row
  pub same : (k : ℕ) → place ≤ k → k < place + n → slice_get row k ≡ Some taken

-- n granules from a place on are there, and free
abbrev pub IsHole : List Bool → ℕ → ℕ → Type 0
IsHole row n place = IsRun row place n false

-- nowhere are n granules in a row free
abbrev pub HasNoHole : List Bool → ℕ → Type 0
HasNoHole row n = (place : ℕ) → ¬ IsHole row n place

-- n granules are free from that place on, and from no lower one
pub record IsFirstHole (row : List Bool) (n place : ℕ) : Type 0 where
  pub hole : IsHole row n place
  pub lowest : (below : ℕ) → below < place → ¬ IsHole row n below

-- as many granules as before, and those outside a range are the same
pub record IsSameOutside (before after : List Bool) (from to : ℕ) : Type 0 where
  pub long : length after ≡ length before
  pub below : (k : ℕ) → k < from → slice_get after k ≡ slice_get before k
  pub above : (k : ℕ) → to ≤ k → slice_get after k ≡ slice_get before k

-- n granules from a place on are now all taken, or all free, and the others are the same
pub record IsSet (before after : List Bool) (place n : ℕ) (taken : Bool) : Type 0 where
  pub run : IsRun after place n taken
  pub others : IsSameOutside before after place (place + n)
