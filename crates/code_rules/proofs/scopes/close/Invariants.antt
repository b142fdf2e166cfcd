use Rattle.code_rules.specs.Scopes.{Close}
use Rattle.code_rules.proofs.scopes.close.Given as goal

abbrev pub invariant-loop-place : goal.invariant-loop-place
invariant-loop-place l = Close l.code l.entry l.depths l.place
