use Rattle.std.proofs.Common.{◌≡◌, None}
use Rattle.code_rules.specs.Answers.{answer_at}
use Rattle.code_rules.specs.Rules.{OfFunctionBefore}
use Rattle.code_rules.proofs.answers.first_answer.Given as goal

abbrev pub invariant-loop-point : goal.invariant-loop-point
invariant-loop-point l = OfFunctionBefore l.code (λ f entry point i. answer_at l.code entry point i ≡ None) l.function l.entry l.point
