use Rattle.live_list.proofs.Sets.{Walked}
use Rattle.live_list.proofs.lines.sets_of.Given as goal

-- the points from this one on have their sets
abbrev pub invariant-loop-point : goal.invariant-loop-point
invariant-loop-point l = Walked l.func l.point l.live l.sets.items
