use Rattle.std.proofs.Common.{◌^◌, arith}
use Rattle.c_conditions.proofs.Digits.{digits_value_over}
use Rattle.c_conditions.proofs.number.digits_value.Goals as goal

pub returns-in-None : goal.returns-in-None
returns-in-None c below = digits_value_over c.args.radix c.args.digits.now c.loop-digit.digit-index (2 ^ 64) c.requires (omega arith) (λ h. c.in-None.ensures (rw c.loop-digit.invariant.value h)) below
