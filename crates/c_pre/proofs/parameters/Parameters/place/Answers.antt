use Rattle.std.proofs.Common.{List, ℕ, ap, ◌∙◌}
use Rattle.c_pre.specs.Expansion.{place_of}
use Rattle.c_pre.proofs.Keys.{place_keys}
use Rattle.c_pre.proofs.parameters.Parameters.place.Goals as goal

pub returns : goal.returns
returns c =
    c.get_index_of.ensures.index ∙ place_keys (λ k. k.items) c.args.name.now c.self.inside.names.keys
    ∙ ap (λ (names : List (List ℕ)). place_of names c.args.name.now) c.self.view_is
