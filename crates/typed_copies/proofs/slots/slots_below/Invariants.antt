use Rattle.std.proofs.Common.{◌-◌, ◌<◌, ◌≤◌, ℕ, length, get_or}
use Rattle.adjusters.specs.ObjectSlots.{object_slots}
use Rattle.typed_copies.proofs.slots.slots_below.Given as goal

abbrev pub invariant-loop-low : goal.invariant-loop-low
invariant-loop-low l = record {
  order : l.low ≤ l.high;
  inside : l.high ≤ length (object_slots l.form l.size);
  below : (k : ℕ) → k < l.low → get_or (object_slots l.form l.size) k 0 < l.offset;
  above : (k : ℕ) → l.high ≤ k → k < length (object_slots l.form l.size) → l.offset ≤ get_or (object_slots l.form l.size) k 0;
}

abbrev pub decreases-loop-low : goal.decreases-loop-low
decreases-loop-low l = l.high - l.low
