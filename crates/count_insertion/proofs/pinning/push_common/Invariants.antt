use Rattle.std.proofs.Common.{◌≡◌, ◌-◌, ◌≤◌, ◌++◌}
use Rattle.local_liveness.specs.Sets.{in_both}
use Rattle.count_insertion.specs.Counting.{passing}
use Rattle.count_insertion.proofs.pinning.push_common.Given as goal

abbrev pub invariant-loop-run : goal.invariant-loop-run
invariant-loop-run l = record {
  order : l.from ≤ l.next;
  within : l.next ≤ l.until;
  registers : l.registers ≡ l.fn.registers ++ passing (in_both l.one l.other) l.from l.next;
}

abbrev pub decreases-loop-run : goal.decreases-loop-run
decreases-loop-run l = l.until - l.next
