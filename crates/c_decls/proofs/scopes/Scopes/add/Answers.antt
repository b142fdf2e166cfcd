use Rattle.std.proofs.Common.{◌≡◌, sym, ap, ◌∙◌, refl, arith, ◌-◌, ◌+◌, ◌<◌, length, ◌++◌, ◌∷◌, [], vec_len}
use Rattle.c_decls.specs.ScopeList.{ScopeList, with_name}
use Rattle.c_decls.specs.Named.{plain_named}
use Rattle.c_decls.proofs.ScopeLemmas.{with_name_last}
use Rattle.c_decls.proofs.scopes.Scopes.add.Goals as goal

pub returns-in_ok-add-in-Some-clause-ok : goal.returns-in_ok-add-in-Some-clause-ok
returns-in_ok-add-in-Some-clause-ok c =
    let some : 0 < vec_len c.self.inside.inner = c.in-Some.ensures.variant.0 refl in
    let long : vec_len c.self.inside.inner - 1 + 1 ≡ length c.self.inside.inner.items = omega (arith, some, c.self.inside.inner.ok.0) in
    let name = c.in_ok-name.ensures.items_if_clones_equal (λ x y e. e) in
    sym (with_name_last c.self.inside.file c.self.inside.inner.items (vec_len c.self.inside.inner - 1)
    c.in-Some.scope.now c.add.new.self c.args.name.now (plain_named c.args.named) long c.in-Some.ensures.value
    (c.in_ok-add-in-Some.ensures.ok ∙ ap (λ n. c.in-Some.scope.now ++ (n, plain_named c.args.named) ∷ []) name))
    ∙ ap (λ (s : ScopeList). with_name s c.args.name.now (plain_named c.args.named)) c.self.view_is
