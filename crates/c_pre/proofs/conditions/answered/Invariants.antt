use Rattle.std.proofs.Common.{◌≡◌, ◌++◌, List, length, option_map}
use Rattle.c_lexer.specs.declared.token.Token.{Token}
use Rattle.c_pre.specs.Conditions.{answered}
use Rattle.c_pre.proofs.conditions.answered.Given as goal

-- the answers so far stand before those of the rest
abbrev pub invariant-loop-rest : goal.invariant-loop-rest
invariant-loop-rest l = answered l.macros l.tokens ≡ option_map (λ (more : List Token). l.done ++ more) (answered l.macros l.rest)

abbrev pub decreases-loop-rest : goal.decreases-loop-rest
decreases-loop-rest l = length l.rest
