-- A negation that wrapped in 128 bits converts as the exact one does.
use Rattle.std.proofs.Common.{ap, ◌∙◌}
use Rattle.std.specs.Prelude.{neg_ℤ}
use Rattle.std.specs.Int.{w128, int_wrapping_neg}
use Rattle.std.proofs.lemmas.Int.{to_z-of_z, wrapping_neg_is}
use Rattle.hs_base.specs.Numbers.{wrapped}
use Rattle.hs_base.proofs.Wrapping.{wrapped_wide, wrapped_negation}
use Rattle.hs_base.proofs.ends.IntKind.negate.Goals as goal

pub returns-clause-value : goal.returns-clause-value
returns-clause-value c =
    let k = c.args.self in
    let a = c.args.a in
    to_z-of_z w128 c.wrap.result (record { sfits = c.wrap.type_inv }) ∙ c.wrap.ensures.value
    ∙ ap (λ z. wrapped k z) (to_z-of_z w128 c.wrapping_neg.result (record { sfits = c.wrapping_neg.type_inv }) ∙ c.wrapping_neg.ensures ∙ ap (int_wrapping_neg w128) (to_z-of_z w128 a c.ranges.a) ∙ wrapping_neg_is w128 a c.ranges.a)
    ∙ wrapped_wide k (neg_ℤ a) ∙ wrapped_negation k a
