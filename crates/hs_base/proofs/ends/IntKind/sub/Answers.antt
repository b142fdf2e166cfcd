-- A difference that wrapped in 128 bits converts as the exact difference does.
use Rattle.std.proofs.Common.{ap, ◌∙◌}
use Rattle.std.specs.Prelude.{◌-ℤ◌}
use Rattle.std.specs.Int.{w128}
use Rattle.std.proofs.lemmas.Int.{to_z-of_z, wrapping_sub_is}
use Rattle.hs_base.specs.Numbers.{wrapped}
use Rattle.hs_base.proofs.Wrapping.{wrapped_wide, wrapped_difference}
use Rattle.hs_base.proofs.ends.IntKind.sub.Goals as goal

pub returns-clause-value : goal.returns-clause-value
returns-clause-value c =
    let k = c.args.self in
    let a = c.args.a in
    let b = c.args.b in
    to_z-of_z w128 c.wrap.result (record { sfits = c.wrap.type_inv }) ∙ c.wrap.ensures.value
    ∙ ap (λ z. wrapped k z) (wrapping_sub_is w128 a b c.ranges.a c.ranges.b) ∙ wrapped_wide k (a -ℤ b) ∙ wrapped_difference k a b
