-- The value of digits, one digit on.
use Rattle.c_lexer.specs.NumbersEquations.{digits_value_none, digits_value_more}

pub ruleset digit_steps = (digits_value_none, digits_value_more)
