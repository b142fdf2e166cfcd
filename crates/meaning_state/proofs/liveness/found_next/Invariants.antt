use Rattle.std.proofs.Common.{◌≡◌, map}
use Rattle.std.specs.List.{range_with_len}
use Rattle.meaning_state.specs.Living.{leads_on}
use Rattle.meaning_state.proofs.liveness.found_next.Given as goal

abbrev pub invariant-loop-point : goal.invariant-loop-point
invariant-loop-point l = l.all.items ≡ map (leads_on l.body l.r l.found) (range_with_len 0 l.point)
