use Rattle.std.proofs.Common.{map, ap, ◌∙◌}
use Rattle.c_units.specs.Mentions.{noted}
use Rattle.c_units.proofs.NameSets.{noted_key}
use Rattle.c_units.proofs.name_set.NameSet.note.Goals as goal

pub returns : goal.returns
returns c =
    ap (map (λ k. k.items)) c.in_ok-insert.ensures.keys
    ∙ noted_key (λ k. k.items) c.self.inside.names.keys c.in_ok-from_slice.field-0
    ∙ (λ i. noted (c.self.view_is i) (c.in_ok-from_slice.ensures.items i))
