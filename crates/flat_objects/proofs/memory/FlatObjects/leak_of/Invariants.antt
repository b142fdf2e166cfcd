use Rattle.std.proofs.Common.{◌≡◌, ◌+◌, ◌*◌, ◌/◌, ◌^◌, ◌≤◌, ℕ, List}
use Rattle.hs_base.specs.Object.{Object}
use Rattle.flat_objects.specs.Keeping.{Keeps}
use Rattle.flat_objects.proofs.Leaking.{of_line, one_each, size_each, sum_below}
use Rattle.flat_objects.proofs.memory.FlatObjects.leak_of.Given as goal

abbrev pub invariant-loop-granule : goal.invariant-loop-granule
invariant-loop-granule g l = record {
  line : l.leak.line ≡ l.line;
  blocks : (places : ℕ → ℕ) (objects : List Object) → Keeps l.self places objects → l.leak.blocks ≡ sum_below places objects one_each (of_line l.line) (16 * l.granule);
  bytes : (places : ℕ → ℕ) (objects : List Object) → Keeps l.self places objects → l.leak.bytes ≡ sum_below places objects size_each (of_line l.line) (16 * l.granule);
  few : l.leak.blocks ≤ l.granule;
  small : l.leak.bytes ≤ 2 ^ 32 * l.granule;
  work : l.steps + 11 * (l.self.heap.base / 16) ≤ l.fn.steps + 11 * l.granule;
}
