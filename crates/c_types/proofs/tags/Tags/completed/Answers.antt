use Rattle.std.proofs.Common.{◌∙◌}
use Rattle.c_types.proofs.Places.{map-tag-completed}
use Rattle.c_types.proofs.tags.Tags.completed.Goals as goal

pub returns : goal.returns
returns c =
    rw (← c.self.view_is) (c.as_slice.ensures.value ∙ (c.self.invariant.order ∙ map-tag-completed c.self.inside.bodies.items))
