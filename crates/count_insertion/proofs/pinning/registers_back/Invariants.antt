use Rattle.count_insertion.proofs.Collecting.{Collected}
use Rattle.count_insertion.proofs.pinning.registers_back.Given as goal

abbrev pub invariant-loop-point : goal.invariant-loop-point
invariant-loop-point l = Collected l.func l.point l.live l.lists.items
