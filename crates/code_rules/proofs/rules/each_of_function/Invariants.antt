use Rattle.code_rules.specs.Rules.{OfFunctionBefore}
use Rattle.code_rules.proofs.rules.each_of_function.Given as goal

-- the instructions so far keep the rule
abbrev pub invariant-loop-point : goal.invariant-loop-point
invariant-loop-point g l = OfFunctionBefore l.code (g.R.Rule.holds l.rule l.code) l.function l.entry l.point
