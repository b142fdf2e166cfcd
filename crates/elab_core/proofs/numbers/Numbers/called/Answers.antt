use Rattle.std.proofs.Common.{arith}
use Rattle.std.proofs.lemmas.Grind.{common_steps}
use Rattle.elaboration.specs.Resolving.{numbered}
use Rattle.elab_core.proofs.numbers.Numbers.called.Goals as goal

pub returns-in_ok-maybe_register-in-Call : goal.returns-in_ok-maybe_register-in-Call
unfolding numbered
returns-in_ok-maybe_register-in-Call c = λ pieces p. grind (arith, common_steps, c.atoms.ensures pieces)

pub returns-in_ok-maybe_register-in-Lib : goal.returns-in_ok-maybe_register-in-Lib
unfolding numbered
returns-in_ok-maybe_register-in-Lib c = λ pieces p. grind (arith, common_steps, c.atoms-in-Lib.ensures pieces)

pub returns-in_ok-register-in-Printf : goal.returns-in_ok-register-in-Printf
unfolding numbered
returns-in_ok-register-in-Printf c = λ pieces p. grind (arith, common_steps, c.atoms-in-Printf.ensures pieces)
