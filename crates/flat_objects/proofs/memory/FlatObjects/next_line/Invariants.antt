use Rattle.std.proofs.Common.{◌+◌, ◌*◌, ◌/◌, ◌≤◌, ℕ, List}
use Rattle.hs_base.specs.Object.{Object}
use Rattle.flat_objects.specs.Keeping.{Keeps}
use Rattle.flat_objects.proofs.Leaking.{IsBornBelow}
use Rattle.flat_objects.proofs.Least.{IsLeastAbove}
use Rattle.flat_objects.proofs.memory.FlatObjects.next_line.Given as goal

abbrev pub invariant-loop-granule : goal.invariant-loop-granule
invariant-loop-granule g l = record {
  next : (places : ℕ → ℕ) (objects : List Object) → Keeps l.self places objects → IsLeastAbove (IsBornBelow places objects (16 * l.granule)) l.after l.next;
  work : l.steps + 11 * (l.self.heap.base / 16) ≤ l.fn.steps + 11 * l.granule;
}
