use Rattle.std.proofs.Common.{ap, ◌∙◌}
use Rattle.c_decls.specs.Named.{plain_named}
use Rattle.c_decls.specs.ScopeList.{named_in}
use Rattle.c_decls.proofs.ScopeLemmas.{named_in-map, lent}
use Rattle.c_decls.proofs.scope.Scope.find.Goals as goal

pub returns : goal.returns
returns c =
    lent plain_named c.get.result _ c.get.ensures.value
    ∙ named_in-map (λ k. k.items) plain_named c.args.name.now c.self.inside.names.entries
    ∙ ap (named_in c.args.name.now) c.self.view_is
