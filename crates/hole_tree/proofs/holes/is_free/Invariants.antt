use Rattle.std.proofs.Common.{◌≡◌, ◌<◌, ◌≤◌, ℕ, false, Some}
use Rattle.std.specs.Prelude.{slice_get}
use Rattle.hole_tree.proofs.holes.is_free.Given as goal

abbrev pub invariant-loop-granule : goal.invariant-loop-granule
invariant-loop-granule l = (k : ℕ) → l.place ≤ k → k < l.granule → slice_get l.row k ≡ Some false
