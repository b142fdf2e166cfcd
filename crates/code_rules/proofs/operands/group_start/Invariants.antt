use Rattle.std.proofs.Common.{◌≤◌}
use Rattle.code_rules.proofs.operands.group_start.Given as goal

abbrev pub invariant-loop-first : goal.invariant-loop-first
invariant-loop-first l = l.first ≤ l.point

abbrev pub decreases-loop-first : goal.decreases-loop-first
decreases-loop-first l = l.first
