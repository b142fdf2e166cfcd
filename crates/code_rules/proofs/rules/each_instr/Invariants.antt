use Rattle.code_rules.specs.Rules.{OfFunctionsBefore}
use Rattle.code_rules.proofs.rules.each_instr.Given as goal

-- the functions so far keep the rule
abbrev pub invariant-loop-function : goal.invariant-loop-function
invariant-loop-function g l = OfFunctionsBefore l.code (g.R.Rule.holds l.rule l.code) l.function
