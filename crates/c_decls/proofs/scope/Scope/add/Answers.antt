use Rattle.std.proofs.Common.{ap, ◌∙◌, map, ◌++◌, ◌∷◌, [], List, ℕ}
use Rattle.std.specs.Prelude.{bytes_eq}
use Rattle.std.proofs.lemmas.List.{map-append}
use Rattle.indexmap.proofs.CallerLemmas.{insert_entry-new}
use Rattle.c_decls.specs.Named.{plain_named}
use Rattle.c_decls.specs.ScopeList.{named_in}
use Rattle.c_decls.proofs.ScopeLemmas.{absent}
use Rattle.c_decls.proofs.scope.Scope.add.Goals as goal

pub returns-clause-ok : goal.returns-clause-ok
returns-clause-ok c =
    let none = absent (λ k. k.items) plain_named c.args.name.items c.self.inside.names.entries (ap (named_in c.args.name.items) c.self.view_is ∙ c.requires) in
    let entries = c.in_ok-insert.ensures.entries ∙ insert_entry-new (λ a b. bytes_eq a.items b.items) c.self.inside.names c.args.name c.args.named none in
    ap (map (λ e. (e.0.items, plain_named e.1))) entries
    ∙ map-append (λ e. (e.0.items, plain_named e.1)) c.self.inside.names.entries ((c.args.name, c.args.named) ∷ [])
    ∙ ap (λ s. s ++ (c.args.name.items, plain_named c.args.named) ∷ []) c.self.view_is
