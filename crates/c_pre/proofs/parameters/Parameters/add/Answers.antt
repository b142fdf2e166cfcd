use Rattle.std.proofs.Common.{[], ◌∷◌, ◌++◌, map, ap, ◌∙◌}
use Rattle.c_pre.specs.Directives.{is_among}
use Rattle.c_pre.proofs.Keys.{new_key}
use Rattle.c_pre.proofs.parameters.Parameters.add.Goals as goal

pub returns : goal.returns
returns c =
    ap (map (λ k. k.items)) c.in_ok-insert.ensures.keys
    ∙ new_key (λ k. k.items) c.self.inside.names.keys c.in_ok-from_slice.field-0
    ((λ i. is_among (c.self.view_is i) (c.in_ok-from_slice.ensures.items i)) ∙ c.requires)
    ∙ (λ i. c.self.view_is i ++ c.in_ok-from_slice.ensures.items i ∷ [])
