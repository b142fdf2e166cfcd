-- A sum that wrapped in 128 bits converts as the exact sum does.
use Rattle.std.proofs.Common.{ap, ◌∙◌}
use Rattle.std.specs.Prelude.{◌+ℤ◌}
use Rattle.std.specs.Int.{w128}
use Rattle.std.proofs.lemmas.Int.{to_z-of_z, wrapping_add_is}
use Rattle.hs_base.specs.Numbers.{wrapped}
use Rattle.hs_base.proofs.Wrapping.{wrapped_wide, wrapped_sum}
use Rattle.hs_base.proofs.ends.IntKind.add.Goals as goal

pub returns-clause-value : goal.returns-clause-value
returns-clause-value c =
    let k = c.args.self in
    let a = c.args.a in
    let b = c.args.b in
    to_z-of_z w128 c.wrap.result (record { sfits = c.wrap.type_inv }) ∙ c.wrap.ensures.value
    ∙ ap (λ z. wrapped k z) (wrapping_add_is w128 a b c.ranges.a c.ranges.b) ∙ wrapped_wide k (a +ℤ b) ∙ wrapped_sum k a b
