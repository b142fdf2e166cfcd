use Rattle.std.proofs.Common.{◌≡◌, ◌+◌, ◌-◌, ◌<◌, ℕ, get_or}
use Rattle.adjusters.specs.ObjectSlots.{object_slots}
use Rattle.typed_copies.proofs.slots.at_same_distances.Given as goal

abbrev pub invariant-loop-k : goal.invariant-loop-k
invariant-loop-k l = (k : ℕ) → k < l.k → get_or (object_slots l.d_form l.dst.size) (l.into.first + k) 0 - l.dst.offset ≡ get_or (object_slots l.s_form l.src.size) (l.out.first + k) 0 - l.src.offset
