use Rattle.std.proofs.Common.{◌≡◌, ◌+◌, sum, take}
use Rattle.count_table.proofs.Counts.total.Given as goal

abbrev pub invariant-loop-low : goal.invariant-loop-low
invariant-loop-low g l = record {
  total : l.total ≡ sum (take l.low-index l.low-items);
  steps : l.steps ≡ l.initial.steps + l.low-index;
}
