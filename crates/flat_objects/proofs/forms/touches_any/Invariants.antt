use Rattle.std.proofs.Common.{◌≤◌, ◌-◌, ◌<◌, ℕ}
use Rattle.std.specs.Prelude.{Contains}
use Rattle.adjusters.specs.ObjectSlots.{object_slots}
use Rattle.flat_objects.proofs.forms.touches_any.Given as goal

abbrev pub invariant-loop-slot : goal.invariant-loop-slot
invariant-loop-slot l = (k : ℕ) → l.offset - 3 ≤ k → k < l.slot → Contains (object_slots l.form l.size) k → ⊥
