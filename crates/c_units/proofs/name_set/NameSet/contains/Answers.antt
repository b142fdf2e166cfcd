use Rattle.std.proofs.Common.{List, ℕ, ap, ◌∙◌}
use Rattle.c_units.specs.Mentions.{is_among}
use Rattle.c_units.proofs.NameSets.{among_keys}
use Rattle.c_units.proofs.name_set.NameSet.contains.Goals as goal

pub returns : goal.returns
returns c =
    c.contains.ensures ∙ among_keys (λ k. k.items) c.args.name.now c.self.inside.names.keys
    ∙ ap (λ (names : List (List ℕ)). is_among names c.args.name.now) c.self.view_is
