use Rattle.std.proofs.Common.{◌≡◌, ◌*◌, ◌∙◌, ap}
use Rattle.c_types.specs.Types.{plain}
use Rattle.c_decls.proofs.LayerParts.{multiplied, in_array}
use Rattle.c_decls.proofs.layered.LayeredType.array_of.Goals as goal

pub invariant_of-result : goal.invariant_of-result
invariant_of-result c =
    let product : c.in_ok-count.count ≡ c.self.inside.count * c.args.length =
    multiplied _ c.checked_mul.result _ _ c.checked_mul.ensures c.in_ok-count.ensures.ok_part ∙ ap (λ n. c.self.inside.count * n) c.from.ensures in
    λ tags. in_array tags (plain c.self.inside.part) (plain c.self.inside.ty) _ c.self.inside.count c.args.length _ c.in_ok-ty.ensures product (c.self.invariant tags)
