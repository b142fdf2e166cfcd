use Rattle.std.proofs.Common.{◌≡◌, ◌<◌, ◌^◌, take}
use Rattle.c_lexer.specs.Numbers.{digits_value}
use Rattle.c_conditions.proofs.number.digits_value.Given as goal

-- the value of the digits so far
abbrev pub invariant-loop-digit : goal.invariant-loop-digit
invariant-loop-digit l = record { value : l.value ≡ digits_value l.radix (take l.digit-index l.digits); fits : l.value < 2 ^ 64 }
