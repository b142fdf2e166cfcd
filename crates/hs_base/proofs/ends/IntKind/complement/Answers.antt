-- The low bits of the turned bits are the turned low bits.
use Rattle.std.proofs.Common.{◌∙◌}
use Rattle.std.specs.Int.{w128}
use Rattle.std.proofs.lemmas.Int.{to_z-of_z}
use Rattle.hs_base.proofs.Wrapping.{wrapped_complement}
use Rattle.hs_base.proofs.ends.IntKind.complement.Goals as goal

pub returns-clause-value : goal.returns-clause-value
returns-clause-value c =
    to_z-of_z w128 c.wrap.result (record { sfits = c.wrap.type_inv }) ∙ c.wrap.ensures.value
    ∙ wrapped_complement c.args.self c.args.a c.ranges.a
