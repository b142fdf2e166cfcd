use Rattle.std.proofs.Common.{◌≡◌, ◌*◌, ◌^◌, ◌<◌, ℕ}
use Rattle.hole_tree.proofs.holes.height_for.Given as goal

abbrev pub invariant-loop-height : goal.invariant-loop-height
invariant-loop-height l = (l.room ≡ 32 * 2 ^ l.height) × ((lower : ℕ) → lower < l.height → 32 * 2 ^ lower < l.granules)
