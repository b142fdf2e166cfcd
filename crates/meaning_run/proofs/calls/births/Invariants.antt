use Rattle.std.proofs.Common.{◌≡◌, length}
use Rattle.std.specs.List.{range_with_len}
use Rattle.meaning_run.proofs.calls.births.Given as goal

abbrev pub invariant-loop-k : goal.invariant-loop-k
invariant-loop-k l = record {
  is : l.births.items ≡ range_with_len l.first l.k;
  len : length l.births.items ≡ l.k;
}
