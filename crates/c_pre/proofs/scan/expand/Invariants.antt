use Rattle.c_pre.specs.Steps.{expanded_by_steps}
use Rattle.c_pre.proofs.Left.{left, ComesTo}
use Rattle.c_pre.proofs.scan.expand.Given as goal

abbrev pub invariant-steps : goal.invariant-steps
invariant-steps l = ComesTo l.macros l.scan (expanded_by_steps l.macros l.fn.tokens l.fn.work)

abbrev pub decreases-steps : goal.decreases-steps
decreases-steps l = left l.scan
