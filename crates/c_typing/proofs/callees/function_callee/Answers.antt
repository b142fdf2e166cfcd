use Rattle.std.proofs.Common.{ap, sym, ◌∙◌}
use Rattle.c_types.specs.Types.{plain}
use Rattle.c_types.specs.TypesEquations.{plain-function}
use Rattle.c_decls.specs.Callees.{function_callee}
use Rattle.c_typing.proofs.callees.function_callee.Goals as goal

pub returns-in_ok-try_clone-in-Function : goal.returns-in_ok-try_clone-in-Function
returns-in_ok-try_clone-in-Function c =
    ap function_callee
    (c.in_ok-try_clone-in-Function.ensures ∙ (sym (plain-function c.in-Function.signature) ∙ ap plain (sym c.in-Function.is)))
