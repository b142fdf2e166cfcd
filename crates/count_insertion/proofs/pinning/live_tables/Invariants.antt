use Rattle.std.proofs.Common.{take}
use Rattle.count_insertion.specs.Inserted.{AreTables}
use Rattle.count_insertion.proofs.pinning.live_tables.Given as goal

abbrev pub invariant-loop-func : goal.invariant-loop-func
invariant-loop-func l = AreTables l.live.items (take l.func-index l.func-items)
