use Rattle.code_rules.specs.Scopes.{Moves}
use Rattle.code_rules.proofs.scopes.sweep.Given as goal

abbrev pub invariant-loop-place : goal.invariant-loop-place
invariant-loop-place l = Moves l.code l.function l.entry 0 l.place l.fn.depths l.depths l.change
