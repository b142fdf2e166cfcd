use Rattle.std.proofs.Common.{ap, ◌∙◌}
use Rattle.c_types.specs.Types.{plain_signature}
use Rattle.c_types.specs.TypesEquations.{plain-parts}
use Rattle.c_types.proofs.types.CType.function_of.Goals as goal

pub returns : goal.returns
returns c = plain-parts c.leak.result.now ∙ ap plain_signature (c.leak.ensures.value ∙ c.in_ok-new.ensures.ok)
