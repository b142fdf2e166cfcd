-- How many delay blocks are still to be left.
use Rattle.std.proofs.Common.{◌≡◌}
use Rattle.elaboration.specs.Statements.{leaves}
use Rattle.elab_statements.proofs.jumps.leaves.Given as goal

-- those that are left to leave are left behind those that were left
abbrev pub invariant-loop-left : goal.invariant-loop-left
invariant-loop-left l = leaves l.line l.left l.state ≡ leaves l.line l.count l.initial.state

abbrev pub decreases-loop-left : goal.decreases-loop-left
decreases-loop-left l = l.left
