-- Whether a condition holds (C99 6.10.1).
use Rattle.std.specs.Prelude.{Bool, List, Option}
use Rattle.c_lexer.specs.declared.token.Token.{Token}
use Rattle.grammar_reading.specs.Conditions.{read_condition}
use Rattle.c_conditions.specs.Operands.{from, is_true}
use Rattle.c_conditions.specs.Values.{value}

-- whether the tokens, which are a condition with a number, have one that is not zero; nothing where they are none
unfoldable pub condition_holds : List Token → Option Bool
condition_holds tokens = from (read_condition tokens) (λ tree. from (value tree) is_true)
