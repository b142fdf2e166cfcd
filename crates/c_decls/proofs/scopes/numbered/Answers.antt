use Rattle.std.proofs.Common.{◌≡◌, ◌∙◌, refl, sym, ap, arith, add-one, take, get_or, ◌+◌, ◌++◌, ◌∷◌, []}
use Rattle.std.proofs.lemmas.List.{take_all}
use Rattle.c_decls.specs.declared.built_in.BuiltIn.TheVariants.{SizeT}
use Rattle.c_decls.specs.Named as named
use Rattle.c_decls.specs.ScopeList.{named_in}
use Rattle.c_decls.specs.BuiltIns.{name_of, numbered_from}
use Rattle.c_decls.proofs.NumberedNames.{length-numbered_from, next_entry, next_is_new}
use Rattle.c_decls.proofs.scopes.numbered.Goals as goal

pub add-requires : goal.add-requires
add-requires c =
    let name = get_or c.args.names.now c.loop-index.index SizeT in
    ap (λ n. named_in n c.loop-index.scope) (c.in_ok-name.ensures.items_if_clones_equal (λ x y e. e) ∙ c.name.ensures)
    ∙ ap (named_in (name_of name)) c.loop-index.invariant
    ∙ next_is_new 0 c.args.names.now c.loop-index.index name SizeT c.requires.differ c.loop-index-test.true refl

pub loop-index-preserved : goal.loop-index-preserved
loop-index-preserved c =
    let names = c.args.names.now in
    let index = c.loop-index.index in
    let same = c.in_ok-name.ensures.items_if_clones_equal (λ x y e. e) ∙ c.name.ensures in
    c.in_ok-add.ensures.ok
    ∙ (λ i. c.loop-index.invariant i ++ (same i, named.BuiltIn index) ∷ [])
    ∙ sym (next_entry 0 index names index (get_or names index SizeT) SizeT (omega arith) c.loop-index-test.true refl)
    ∙ ap (λ m. take m (numbered_from 0 names)) (sym (add-one index))

pub returns : goal.returns
returns c =
    c.loop-index.invariant
    ∙ take_all c.loop-index.index (numbered_from 0 c.args.names.now)
    (omega (arith, c.loop-index-test.false, length-numbered_from 0 c.args.names.now))
