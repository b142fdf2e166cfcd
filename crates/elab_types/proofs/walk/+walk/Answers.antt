-- The loops of the walk step by step, and the forms whose parts were gone through.
use Rattle.std.proofs.Common.{◌≡◌, ◌∙◌, List, ap, sym, subst, map, Vec, Global, Err, Ok}
use Rattle.std.proofs.lemmas.Result.{err_from_is_err_and}
use Rattle.c_types.specs.declared.types.CType.{CType}
use Rattle.c_types.specs.Types.{PlainType, PlainTypes, plain, plain_list}
use Rattle.c_tree.specs.declared.tree.Param.{Param}
use Rattle.c_tree.specs.declared.tree.Suffix.{Suffix}
use Rattle.c_tree.specs.View.{spec_tree, declarator_tree}
use Rattle.c_tree.specs.StatementView.{trees, member_view, suffix_view, param_view}
use Rattle.c_decls.specs.Refusals.{Meets}
use Rattle.c_decls.specs.TypeNames.{Layer, FunctionOf}
use Rattle.c_typing.specs.declared.layers.Layer.{Layer as CodeLayer}
use Rattle.c_typing.specs.Layers.{plain_layer}
use Rattle.elaboration.specs.Context.{Context, With, entered}
use Rattle.elaboration.specs.Declarators.{Members, members, params, suffix_layers, left_params}
use Rattle.elab_types.specs.Steps.{behind}
use Rattle.elab_types.proofs.Nodes.{word_next, word_found, words_end, member_step, members_end, members_go, name_step, names_walk, names_end, names_go, suffix_one, suffix_walk, suffixes_end, suffixes_go, param_found, param_walk, params_end, params_go, params_alone, direct_is, direct_meets, with_suffixes, from_name, from_specs, params_is, params_layer}
use Rattle.elab_types.proofs.Turns.{left_next, left_refused, left_none, pushed, push_next, push_refused, refused_then}
use Rattle.elab_types.proofs.walk.+walk.Goals as goal
use Rattle.c_typing.specs.TypeLists.{as_types, as_plain_list}

-- words

pub words_type-loop-word-preserved : goal.words_type-loop-word-preserved
words_type-loop-word-preserved t c =
    word_next c.args.line (trees spec_tree c.args.words.now) c.args.words.now c.loop-word.word-index c.word-item.result c.loop-word.state _
    c.word-item.is c.loop-word-test.true (sym c.is_special.ensures ∙ c.if-is_special.false) c.loop-word.invariant

pub words_type-returns-then-is_special : goal.words_type-returns-then-is_special
words_type-returns-then-is_special t c =
    subst (λ (w : With PlainType). Meets (λ (type : PlainType). (c.one_type.new.state, type)) c.one_type.result w)
    (word_found c.args.line (trees spec_tree c.args.words.now) c.args.words.now c.loop-word.word-index c.word-item.result c.loop-word.state _
    c.word-item.is c.loop-word-test.true (sym c.is_special.ensures ∙ c.if-is_special.true) c.loop-word.invariant)
    c.one_type.ensures

-- members

pub members-loop-part-preserved : goal.members-loop-part-preserved
members-loop-part-preserved t c =
    left_next member_view member_step members (λ all d. (d, all)) members_end members_go
    c.args.list.now c.loop-part.part-index c.part-item.result c.loop-part.all c.in_ok-all.all c.loop-part.state c.members_by.new.state _
    c.part-item.is c.loop-part-test.true c.in_ok-all.ensures c.loop-part.invariant

pub members-returns : goal.members-returns
members-returns t c =
    left_none member_view member_step members (λ all d. (d, all)) members_end members_go
    c.args.list.now c.loop-part.part-index c.loop-part.all c.loop-part.state _ c.loop-part-test.false c.loop-part.invariant

pub members-returns-in_err-all : goal.members-returns-in_err-all
members-returns-in_err-all t c =
    let p = err_from_is_err_and c.from_residual.result c.from_residual.ensures.1 in
    let view : Members → Context × Members = λ all. (c.members_by.new.state, all) in
    rw (p.1, p.2)
    (left_refused member_view member_step members (λ all d. (d, all)) members_end members_go view view
    c.args.list.now c.loop-part.part-index c.part-item.result c.loop-part.all c.loop-part.state c.in_err-all.field-0.0 _
    c.part-item.is c.loop-part-test.true c.loop-part.invariant c.in_err-all.ensures)

pub member_names-loop-declarator-preserved : goal.member_names-loop-declarator-preserved
member_names-loop-declarator-preserved t c =
    let line = c.args.line in
    let base = c.args.base.now in
    left_next declarator_tree (name_step line base) (names_walk line base) (λ all d. (d, all)) (names_end line base) (names_go line base)
    c.args.list.now c.loop-declarator.declarator-index c.declarator-item.result c.loop-declarator.all c.in_ok-all.all c.loop-declarator.state c.member_by.new.state _
    c.declarator-item.is c.loop-declarator-test.true c.in_ok-all.ensures c.loop-declarator.invariant

pub member_names-returns : goal.member_names-returns
member_names-returns t c =
    let line = c.args.line in
    let base = c.args.base.now in
    left_none declarator_tree (name_step line base) (names_walk line base) (λ all d. (d, all)) (names_end line base) (names_go line base)
    c.args.list.now c.loop-declarator.declarator-index c.loop-declarator.all c.loop-declarator.state _ c.loop-declarator-test.false c.loop-declarator.invariant

pub member_names-returns-in_err-all : goal.member_names-returns-in_err-all
member_names-returns-in_err-all t c =
    let line = c.args.line in
    let base = c.args.base.now in
    let p = err_from_is_err_and c.from_residual.result c.from_residual.ensures.1 in
    let view : Members → Context × Members = λ all. (c.member_by.new.state, all) in
    rw (p.1, p.2)
    (left_refused declarator_tree (name_step line base) (names_walk line base) (λ all d. (d, all)) (names_end line base) (names_go line base) view view
    c.args.list.now c.loop-declarator.declarator-index c.declarator-item.result c.loop-declarator.all c.loop-declarator.state c.in_err-all.field-0.0 _
    c.declarator-item.is c.loop-declarator-test.true c.loop-declarator.invariant c.in_err-all.ensures)

-- suffixes

pub suffix_layers-loop-suffix-preserved : goal.suffix_layers-loop-suffix-preserved
suffix_layers-loop-suffix-preserved t c =
    push_next suffix_view suffix_one suffix_walk (λ all d. (d, all)) suffixes_end suffixes_go plain_layer
    c.args.list.now c.loop-suffix.suffix-index c.suffix-item.result c.loop-suffix.all.items c.push.new.self.items c.in_ok-suffix_layer.field-0 c.loop-suffix.state c.suffix_layer.new.state _
    c.suffix-item.is c.loop-suffix-test.true c.in_ok-suffix_layer.ensures c.in_ok-push.ensures.items c.loop-suffix.invariant

pub suffix_layers-returns : goal.suffix_layers-returns
suffix_layers-returns t c =
    left_none suffix_view (λ s a d. pushed (suffix_one s d) a) suffix_walk (λ all d. (d, all)) suffixes_end suffixes_go
    c.args.list.now c.loop-suffix.suffix-index (map plain_layer c.loop-suffix.all.items) c.loop-suffix.state _ c.loop-suffix-test.false c.loop-suffix.invariant

pub suffix_layers-returns-in_err-suffix_layer : goal.suffix_layers-returns-in_err-suffix_layer
suffix_layers-returns-in_err-suffix_layer t c =
    let p = err_from_is_err_and c.from_residual.result c.from_residual.ensures.1 in
    let from : CodeLayer → Context × Layer = λ layer. (c.suffix_layer.new.state, plain_layer layer) in
    let to : Vec CodeLayer Global → Context × List Layer = λ layers. (c.suffix_layer.new.state, map plain_layer layers.items) in
    rw (p.1, p.2)
    (push_refused suffix_view suffix_one suffix_walk (λ all d. (d, all)) suffixes_end suffixes_go plain_layer from to
    c.args.list.now c.loop-suffix.suffix-index c.suffix-item.result c.loop-suffix.all.items c.loop-suffix.state c.in_err-suffix_layer.field-0.0 _
    c.suffix-item.is c.loop-suffix-test.true c.loop-suffix.invariant c.in_err-suffix_layer.ensures)

-- parameters

pub params-loop-part-preserved : goal.params-loop-part-preserved
params-loop-part-preserved t c =
    push_next param_view param_found param_walk (λ all d. (d, as_types all)) params_end params_go plain
    c.args.list.now c.loop-part.part-index c.part-item.result c.loop-part.types.items c.push.new.self.items c.in_ok-param_by.field-0 c.loop-part.state c.param_by.new.state _
    c.part-item.is c.loop-part-test.true c.in_ok-param_by.ensures c.in_ok-push.ensures.items c.loop-part.invariant

pub params-returns : goal.params-returns
params-returns t c =
    sym (params_alone (params (trees param_view c.args.list.now) c.args.state.now))
    ∙ left_none param_view (λ p a d. pushed (param_found p d) a) param_walk (λ all d. (d, as_types all)) params_end params_go
    c.args.list.now c.loop-part.part-index (map plain c.loop-part.types.items) c.loop-part.state _ c.loop-part-test.false c.loop-part.invariant
    ∙ ap (λ types. let found : With PlainTypes = Ok (c.loop-part.state, types) in found) (as_plain_list c.loop-part.types.items)

pub params-returns-in_err-param_by : goal.params-returns-in_err-param_by
params-returns-in_err-param_by t c =
    let p = err_from_is_err_and c.from_residual.result c.from_residual.ensures.1 in
    let from : CType → Context × PlainType = λ ty. (c.param_by.new.state, plain ty) in
    let to : Vec CType Global → Context × PlainTypes = λ types. (c.param_by.new.state, plain_list types.items) in
    rw (p.1, p.2)
    (subst (λ (w : With PlainTypes). Meets to (Err c.in_err-param_by.field-0.0) w)
    (params_alone (params (trees param_view c.args.list.now) c.args.state.now))
    (push_refused param_view param_found param_walk (λ all d. (d, as_types all)) params_end params_go plain from to
    c.args.list.now c.loop-part.part-index c.part-item.result c.loop-part.types.items c.loop-part.state c.in_err-param_by.field-0.0 _
    c.part-item.is c.loop-part-test.true c.loop-part.invariant c.in_err-param_by.ensures))

pub words_type-returns : goal.words_type-returns
words_type-returns t c =
    words_end c.args.line (trees spec_tree c.args.words.now) c.args.words.now c.loop-word.word-index c.loop-word.state _ c.loop-word-test.false c.loop-word.invariant
    ∙ ap (λ ty. let found : With PlainType = Ok (c.loop-word.state, ty) in found) (sym c.word_type.ensures)

-- declarators

pub layers-returns-in_ok-before-in-Direct : goal.layers-returns-in_ok-before-in-Direct
layers-returns-in_ok-before-in-Direct t c =
    let list = trees suffix_view c.in-Direct.suffixes.items in
    let before = c.in_ok-before-in-Direct.before.items in
    let d = c.base_layers.new.state in
    let f = c.suffix_layers.new.state in
    let whole = direct_is c.args.declarator.now c.in-Direct.base c.in-Direct.suffixes c.args.state.now c.in-Direct.is ∙ ap (with_suffixes list) c.in_ok-before-in-Direct.ensures in
    subst (λ (w : With (List Layer)). Meets (from_specs f) c.suffix_layers.result w) (sym whole)
    (direct_meets before f c.suffix_layers.result (suffix_layers list d)
    (subst (λ (s : List Suffix). Meets (from_name f) c.suffix_layers.result (behind (map plain_layer before) (suffix_layers (trees suffix_view s) d)))
    c.deref-in-Direct.ensures.value c.suffix_layers.ensures))

-- parameter lists

pub suffix_layer-returns-in_ok-types-in-Params : goal.suffix_layer-returns-in_ok-types-in-Params
suffix_layer-returns-in_ok-types-in-Params t c =
    let line = c.args.suffix.now.line in
    let types = plain_list c.in_ok-types-in-Params.types.items in
    params_is c.args.suffix.now.kind line c.in-Params.list c.args.state.now c.in-Params.is
    ∙ ap (params_layer line)
    (ap (λ d. params (trees param_view c.in-Params.list.items) d) (sym c.in_ok-enter-in-Params.ensures)
    ∙ subst (λ (ps : List Param). params (trees param_view ps) c.enter.new.self ≡ Ok (c.params.new.state, types)) c.deref-in-Params.ensures.value c.in_ok-types-in-Params.ensures)
    ∙ ap (λ d. let found : With Layer = Ok (d, FunctionOf line types) in found) (sym c.leave_params.ensures)

pub suffix_layer-returns-in_err-types-in-Params : goal.suffix_layer-returns-in_err-types-in-Params
suffix_layer-returns-in_err-types-in-Params t c =
    let p = err_from_is_err_and c.from_residual-in_err-types-in-Params.result c.from_residual-in_err-types-in-Params.ensures.1 in
    let line = c.args.suffix.now.line in
    let error = c.in_err-types-in-Params.field-0.0 in
    let from : Vec CType Global → Context × PlainTypes = λ types. (c.params.new.state, plain_list types.items) in
    let to : CodeLayer → Context × Layer = λ layer. (c.params.new.state, plain_layer layer) in
    let list = trees param_view c.in-Params.list.items in
    let begun : Meets from (Err error) (params list (entered c.args.state.now)) =
    subst (λ (d : Context). Meets from (Err error) (params list d)) c.in_ok-enter-in-Params.ensures
    (subst (λ (ps : List Param). Meets from (Err error) (params (trees param_view ps) c.enter.new.self)) c.deref-in-Params.ensures.value c.in_err-types-in-Params.ensures) in
    rw (p.1, p.2)
    (subst (λ (w : With Layer). Meets to (Err error) w)
    (sym (params_is c.args.suffix.now.kind line c.in-Params.list c.args.state.now c.in-Params.is))
    (refused_then from to error (params list (entered c.args.state.now)) (λ d. Ok (left_params d.0, FunctionOf line d.1)) begun))
