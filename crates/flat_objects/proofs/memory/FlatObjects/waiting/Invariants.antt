use Rattle.std.proofs.Common.{◌+◌, ◌*◌, ◌/◌, ◌^◌, ◌≤◌, ℕ, List}
use Rattle.hs_base.specs.Object.{Object}
use Rattle.flat_objects.specs.Keeping.{Keeps}
use Rattle.flat_objects.proofs.Waited.{IsTally}
use Rattle.flat_objects.proofs.memory.FlatObjects.waiting.Given as goal

abbrev pub invariant-loop-granule : goal.invariant-loop-granule
invariant-loop-granule g l = record {
  sums : (places : ℕ → ℕ) (objects : List Object) → Keeps l.self places objects → IsTally places objects l.asked l.tally (16 * l.granule);
  few : l.tally.blocks ≤ l.granule;
  small : l.tally.bytes ≤ 2 ^ 32 * l.granule;
  low : l.tally.lines ≤ 4294967295 * l.tally.blocks;
  work : l.steps + 11 * (l.self.heap.base / 16) ≤ l.fn.steps + 11 * l.granule;
}
