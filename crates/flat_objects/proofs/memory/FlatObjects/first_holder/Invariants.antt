use Rattle.std.proofs.Common.{◌*◌, ℕ, List}
use Rattle.hs_base.specs.Object.{Object}
use Rattle.flat_objects.specs.Holders.{IsKeptObject}
use Rattle.flat_objects.proofs.Sought.{IsFirstSoFar}
use Rattle.flat_objects.proofs.memory.FlatObjects.first_holder.Given as goal

abbrev pub invariant-loop-granule : goal.invariant-loop-granule
invariant-loop-granule g l =
    (places : ℕ → ℕ) (objects : List Object) (birth : ℕ) → IsKeptObject l.self places objects birth l.target → IsFirstSoFar places objects birth (16 * l.granule) l.first
