use Rattle.std.proofs.Common.{◌≡◌, ◌<◌, ℕ, false, get_or}
use Rattle.std.specs.Prelude.{not, nat_eq, slice_index}
use Rattle.std.specs.List.{sum_by}
use Rattle.delay_scopes.specs.Check.{granules_of}
use Rattle.flat_objects.proofs.ending.first_held.Given as goal

abbrev pub invariant-loop-number : goal.invariant-loop-number
invariant-loop-number g l =
    (k : ℕ) → k < l.number → not (nat_eq (sum_by (slice_index l.counts.counts) (granules_of l.bytes (get_or l.locals k 0))) 0) ≡ false
