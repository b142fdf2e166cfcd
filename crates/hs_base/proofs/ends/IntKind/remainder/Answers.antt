-- The remainder of two numbers of a kind is exact in 128 bits.
use Rattle.std.proofs.Common.{◌≡◌, Some, ap, ◌∙◌}
use Rattle.std.specs.Int.{w128}
use Rattle.std.proofs.lemmas.Int.{to_z-of_z}
use Rattle.hs_base.specs.Numbers.{wrapped}
use Rattle.hs_base.proofs.Quotients.{divided, for_other, wrapped_remainder}
use Rattle.hs_base.proofs.ends.IntKind.remainder.Goals as goal

pub returns-else-divisor-eq0-clause-value : goal.returns-else-divisor-eq0-clause-value
returns-else-divisor-eq0-clause-value c =
    let k = c.args.self in
    let result = c.wrap-else-divisor-eq0.result in
    let dividend : c.wrap.result ≡ wrapped k c.args.a = c.wrap.ensures.value ∙ ap (λ z. wrapped k z) (to_z-of_z w128 c.args.a c.ranges.a) in
    let divisor : c.wrap-divisor.result ≡ wrapped k c.args.b = c.wrap-divisor.ensures.value ∙ ap (λ z. wrapped k z) (to_z-of_z w128 c.args.b c.ranges.b) in
    ap Some (to_z-of_z w128 result (record { sfits = c.wrap-else-divisor-eq0.type_inv }) ∙ c.wrap-else-divisor-eq0.ensures.value ∙ wrapped_remainder k c.args.a c.args.b c.wrap.result c.wrap-divisor.result dividend divisor)
    ∙ for_other k c.args.b c.wrap-divisor.result divisor c.if-divisor-eq0.false _

pub returns-else-divisor-eq0-clause-whole : goal.returns-else-divisor-eq0-clause-whole
returns-else-divisor-eq0-clause-whole c = divided c.args.self c.args.a c.args.b _ (returns-else-divisor-eq0-clause-value c)
