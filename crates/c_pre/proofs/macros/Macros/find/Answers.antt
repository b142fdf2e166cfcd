use Rattle.std.proofs.Common.{ap, ◌∙◌}
use Rattle.c_pre.specs.Macros.{found}
use Rattle.c_pre.proofs.Keys.{held, found_keys}
use Rattle.c_pre.proofs.macros.Macros.find.Goals as goal

pub returns-in-Some : goal.returns-in-Some
returns-in-Some c =
    c.as_ref.ensures.value ∙ ap held c.in-Some.ensures.value
    ∙ found_keys (λ k. k.items) c.args.name.now c.self.inside.names.entries ∙ ap (found c.args.name.now) c.self.view_is

pub returns-in-None : goal.returns-in-None
returns-in-None c =
    ap held c.in-None.ensures.value ∙ found_keys (λ k. k.items) c.args.name.now c.self.inside.names.entries
    ∙ ap (found c.args.name.now) c.self.view_is
