use Rattle.std.proofs.Common.{◌≡◌, ◌∙◌, ◌++◌, List, refl, ap, sym, subst, map, Vec, Global, Err, Ok, Option, Some, ℕ, Bool}
use Rattle.std.proofs.lemmas.Result.{err_from_is_err_and}
use Rattle.c_types.specs.declared.types.CType.{CType}
use Rattle.c_types.specs.Types.{PlainType, PlainTypes, plain, plain_list}
use Rattle.c_tree.specs.declared.operator.AssignOp.{AssignOp}
use Rattle.c_tree.specs.declared.tree.Expr.{Expr}
use Rattle.c_tree.specs.declared.tree.ExprKind.TheVariants as x
use Rattle.c_tree.specs.declared.tree.SuffixKind.{SuffixKind}
use Rattle.c_tree.specs.declared.tree.SuffixKind.TheVariants as s
use Rattle.c_tree.specs.StatementView.{trees, expr_view, suffix_view, param_view}
use Rattle.c_decls.specs.declared.typed.Typed.{Typed}
use Rattle.c_decls.specs.Refusals.{Checked, Answers, then}
use Rattle.c_decls.specs.Typed.{PlainTyped, plain_typed}
use Rattle.c_decls.specs.Callees.{call}
use Rattle.c_decls.specs.ScopeList.{ScopeList}
use Rattle.c_decls.specs.TypeNames.{Context, Layer}
use Rattle.c_decls.specs.Expressions.{line_of, typed, suffix_layer, suffix_layers, param_type, param_types, values, in_new_scope, out_of_scope}
use Rattle.c_typing.specs.declared.layers.Layer.{Layer as CodeLayer}
use Rattle.c_typing.specs.Callee.{plain_callee}
use Rattle.c_typing.specs.Layers.{plain_layer, plain_layers}
use Rattle.c_typing.specs.Parts.{behind, operand_of}
use Rattle.c_typing.specs.Walks.{Walks, context_of, with_new}
use Rattle.c_typing.proofs.Turns.{in_turn, left, behind_none, refused_next, turned, turn_refused, turned_all}
use Rattle.c_typing.proofs.Walked.{wanted_walks, unused_walks, changing_walks, callee_walks, callee_refused, valued, values_turns, suffix_turns, param_turns, with_types, call_walks, call_refused, values_refused, sizeof_walks, sizeof_refused, cast_walks, cast_type_refused, cast_value_refused, plain_op, other_op, assign_walks, assign_left_refused, assign_right_refused, change_walks, change_left_refused, change_right_refused, direct_walks, array_walks, array_refused, params_walk, params_refused}
use Rattle.c_typing.proofs.typer.Typer.+walk.Goals as goal
use Rattle.c_typing.specs.TypeLists.{as_types, as_plain_list}

pub wanted-returns : goal.wanted-returns
wanted-returns t c =
    wanted_walks c.args.e.now.kind c.args.e.now.line c.line_of.result (context_of c.args.self.now c.args.tags.now) (context_of c.typed.new.self c.args.tags.now)
    (plain_typed c.in_ok-x.x) c.wanted_value.result c.line_of.ensures c.in_ok-x.ensures c.wanted_value.ensures

pub unused-returns : goal.unused-returns
unused-returns t c =
    unused_walks c.args.e.now.kind c.args.e.now.line c.line_of.result (context_of c.args.self.now c.args.tags.now) (context_of c.typed.new.self c.args.tags.now)
    (plain_typed c.in_ok-x.x) c.read.result c.line_of.ensures c.in_ok-x.ensures c.read.ensures

pub changing-returns : goal.changing-returns
changing-returns t c =
    changing_walks c.args.e.now.kind c.args.e.now.line c.line_of.result (context_of c.args.self.now c.args.tags.now) (context_of c.typed.new.self c.args.tags.now)
    (plain_typed c.in_ok-x.x) c.held_place.result c.line_of.ensures c.in_ok-x.ensures c.held_place.ensures

pub callee-returns-in_ok-x-in_default : goal.callee-returns-in_ok-x-in_default
callee-returns-in_ok-x-in_default t c =
    callee_walks c.args.kind.now c.args.line c.inner_line.result (context_of c.args.self.now c.args.tags.now) (context_of c.kind.new.self c.args.tags.now)
    (plain_typed c.in_ok-x-in_default.x) c.no_function.result c.in_default.not-Name c.inner_line.ensures c.in_ok-x-in_default.ensures c.no_function.ensures

pub callee-returns-in_err-x-in_default : goal.callee-returns-in_err-x-in_default
callee-returns-in_err-x-in_default t c =
    let p = err_from_is_err_and c.from_residual.result c.from_residual.ensures.1 in
    rw (p.1, p.2)
    (callee_refused c.args.kind.now c.args.line (context_of c.args.self.now c.args.tags.now) (context_of c.kind.new.self c.args.tags.now)
    c.in_err-x-in_default.field-0.0 c.in_default.not-Name c.in_err-x-in_default.ensures)

-- arguments

pub values-returns : goal.values-returns
values-returns t c =
    values_turns (trees expr_view c.args.list.now) (context_of c.args.self.now c.args.tags.now)
    ∙ turned_all expr_view valued plain_typed c.args.list.now c.loop-e.e-index (context_of c.loop-e.self c.args.tags.now) c.loop-e.values.items _
    c.loop-e-test.false c.loop-e.invariant

pub values-loop-e-init : goal.values-loop-e-init
values-loop-e-init t c =
    let whole = in_turn valued (trees expr_view c.args.list.now) (context_of c.args.self.now c.args.tags.now) in
    behind_none whole ∙ ap (λ vs. behind (map plain_typed vs) whole) (sym c.new-values.ensures.items)

pub values-loop-e-preserved : goal.values-loop-e-preserved
values-loop-e-preserved t c =
    turned expr_view valued plain_typed c.args.list.now c.loop-e.e-index c.e-item.result (context_of c.loop-e.self c.args.tags.now) (context_of c.wanted.new.self c.args.tags.now)
    c.loop-e.values.items c.push.new.self.items c.in_ok-wanted.field-0 _ c.e-item.is c.loop-e-test.true c.in_ok-wanted.ensures c.in_ok-push.ensures.items c.loop-e.invariant

pub values-returns-in_err-wanted : goal.values-returns-in_err-wanted
values-returns-in_err-wanted t c =
    let p = err_from_is_err_and c.from_residual.result c.from_residual.ensures.1 in
    let error = c.in_err-wanted.field-0.0 in
    let to : Vec Typed Global → List PlainTyped = λ values. map plain_typed values.items in
    let d = context_of c.wanted.new.self c.args.tags.now in
    let start = context_of c.args.self.now c.args.tags.now in
    rw (p.1, p.2)
    (subst (λ (w : Checked (Context × List PlainTyped)). Walks to d (Err error) w) (sym (values_turns (trees expr_view c.args.list.now) start))
    (turn_refused expr_view valued plain_typed plain_typed to c.args.list.now c.loop-e.e-index c.e-item.result (context_of c.loop-e.self c.args.tags.now) d
    c.loop-e.values.items error _ c.e-item.is c.loop-e-test.true c.loop-e.invariant c.in_err-wanted.ensures))

-- suffixes

pub suffix_layers-returns : goal.suffix_layers-returns
suffix_layers-returns t c =
    ap (behind (map plain_layer c.args.before.items)) (suffix_turns (trees suffix_view c.args.list.now) (context_of c.args.self.now c.args.tags.now))
    ∙ turned_all suffix_view suffix_layer plain_layer c.args.list.now c.loop-suffix.suffix-index (context_of c.loop-suffix.self c.args.tags.now) c.loop-suffix.layers.items _
    c.loop-suffix-test.false c.loop-suffix.invariant

pub suffix_layers-loop-suffix-preserved : goal.suffix_layers-loop-suffix-preserved
suffix_layers-loop-suffix-preserved t c =
    turned suffix_view suffix_layer plain_layer c.args.list.now c.loop-suffix.suffix-index c.suffix-item.result (context_of c.loop-suffix.self c.args.tags.now) (context_of c.suffix_layer.new.self c.args.tags.now)
    c.loop-suffix.layers.items c.push.new.self.items c.in_ok-suffix_layer.field-0 _ c.suffix-item.is c.loop-suffix-test.true c.in_ok-suffix_layer.ensures c.in_ok-push.ensures.items c.loop-suffix.invariant

pub suffix_layers-returns-in_err-suffix_layer : goal.suffix_layers-returns-in_err-suffix_layer
suffix_layers-returns-in_err-suffix_layer t c =
    let p = err_from_is_err_and c.from_residual.result c.from_residual.ensures.1 in
    let error = c.in_err-suffix_layer.field-0.0 in
    let to : Vec CodeLayer Global → List Layer = λ layers. map plain_layer layers.items in
    let d = context_of c.suffix_layer.new.self c.args.tags.now in
    let start = context_of c.args.self.now c.args.tags.now in
    rw (p.1, p.2)
    (subst (λ (w : Checked (Context × List Layer)). Walks to d (Err error) (behind (map plain_layer c.args.before.items) w)) (sym (suffix_turns (trees suffix_view c.args.list.now) start))
    (turn_refused suffix_view suffix_layer plain_layer plain_layer to c.args.list.now c.loop-suffix.suffix-index c.suffix-item.result (context_of c.loop-suffix.self c.args.tags.now) d
    c.loop-suffix.layers.items error _ c.suffix-item.is c.loop-suffix-test.true c.loop-suffix.invariant c.in_err-suffix_layer.ensures))

pub layers-returns-in_ok-layers-in-Direct : goal.layers-returns-in_ok-layers-in-Direct
layers-returns-in_ok-layers-in-Direct t c =
    direct_walks c.args.declarator.now c.in-Direct.base c.in-Direct.base c.in-Direct.suffixes c.deref-in-Direct.result.now
    (context_of c.args.self.now c.args.tags.now) (context_of c.base_layers.new.self c.args.tags.now) (context_of c.suffix_layers.new.self c.args.tags.now)
    c.in_ok-layers-in-Direct.layers.items c.suffix_layers.result c.in-Direct.is refl c.deref-in-Direct.ensures.value c.in_ok-layers-in-Direct.ensures c.suffix_layers.ensures

pub suffix_layer-returns-in_ok-length-in-Some : goal.suffix_layer-returns-in_ok-length-in-Some
suffix_layer-returns-in_ok-length-in-Some t c =
    let is : c.args.kind.now ≡ s.Array (Some c.in-Some.held) = c.in-Array.is ∙ ap s.Array c.in-Some.is in
    array_walks c.args.kind.now c.args.line c.line_of.result c.in-Some.held c.deref.result.now
    (context_of c.args.self.now c.args.tags.now) (context_of c.wanted.new.self c.args.tags.now) (plain_typed c.in_ok-x-in-Some.x)
    (Ok c.in_ok-length-in-Some.length) is c.deref.ensures (c.line_of.ensures ∙ ap (λ (e : Expr). line_of (expr_view e)) c.deref-in-Some.ensures)
    c.in_ok-x-in-Some.ensures c.in_ok-length-in-Some.ensures

pub suffix_layer-returns-in_ok-leave-in-Params : goal.suffix_layer-returns-in_ok-leave-in-Params
suffix_layer-returns-in_ok-leave-in-Params t c =
    params_walk c.args.kind.now c.args.line c.in-Params.params c.deref-in-Params.result.now (context_of c.args.self.now c.args.tags.now)
    _ (context_of c.param_types.new.self c.args.tags.now) _ (plain_list c.in_ok-types-in-Params.types.items)
    c.in-Params.is c.deref-in-Params.ensures.value
    (ap (λ (scopes : ScopeList). let at : Context = record { scopes = scopes; tags = with_new c.args.tags.now c.args.self.now.new_tags.items } in at) c.in_ok-enter-in-Params.ensures)
    (ap (λ (scopes : ScopeList). let at : Context = record { scopes = scopes; tags = with_new c.args.tags.now c.param_types.new.self.new_tags.items } in at) c.in_ok-leave-in-Params.ensures)
    c.in_ok-types-in-Params.ensures

pub suffix_layer-returns-in_err-x-in-Some : goal.suffix_layer-returns-in_err-x-in-Some
suffix_layer-returns-in_err-x-in-Some t c =
    let p = err_from_is_err_and c.from_residual.result c.from_residual.ensures.1 in
    let is : c.args.kind.now ≡ s.Array (Some c.in-Some.held) = c.in-Array.is ∙ ap s.Array c.in-Some.is in
    rw (p.1, p.2)
    (array_refused c.args.kind.now c.args.line c.in-Some.held c.deref.result.now
    (context_of c.args.self.now c.args.tags.now) (context_of c.wanted.new.self c.args.tags.now) c.in_err-x-in-Some.field-0.0
    is c.deref.ensures c.in_err-x-in-Some.ensures)

pub suffix_layer-returns-in_err-length-in-Some : goal.suffix_layer-returns-in_err-length-in-Some
suffix_layer-returns-in_err-length-in-Some t c =
    let p = err_from_is_err_and c.from_residual-in_err-length-in-Some.result c.from_residual-in_err-length-in-Some.ensures.1 in
    let is : c.args.kind.now ≡ s.Array (Some c.in-Some.held) = c.in-Array.is ∙ ap s.Array c.in-Some.is in
    rw (p.1, p.2)
    (array_walks c.args.kind.now c.args.line c.line_of.result c.in-Some.held c.deref.result.now
    (context_of c.args.self.now c.args.tags.now) (context_of c.wanted.new.self c.args.tags.now) (plain_typed c.in_ok-x-in-Some.x)
    (Err c.in_err-length-in-Some.field-0.0) is c.deref.ensures (c.line_of.ensures ∙ ap (λ (e : Expr). line_of (expr_view e)) c.deref-in-Some.ensures)
    c.in_ok-x-in-Some.ensures c.in_err-length-in-Some.ensures)

pub suffix_layer-returns-in_err-types-in-Params : goal.suffix_layer-returns-in_err-types-in-Params
suffix_layer-returns-in_err-types-in-Params t c =
    let p = err_from_is_err_and c.from_residual-in_err-types-in-Params.result c.from_residual-in_err-types-in-Params.ensures.1 in
    rw (p.1, p.2)
    (params_refused c.args.kind.now c.args.line c.in-Params.params c.deref-in-Params.result.now (context_of c.args.self.now c.args.tags.now)
    _ (context_of c.param_types.new.self c.args.tags.now) c.in_err-types-in-Params.field-0.0
    c.in-Params.is c.deref-in-Params.ensures.value
    (ap (λ (scopes : ScopeList). let at : Context = record { scopes = scopes; tags = with_new c.args.tags.now c.args.self.now.new_tags.items } in at) c.in_ok-enter-in-Params.ensures)
    c.in_err-types-in-Params.ensures)

-- parameters

pub param_types-returns : goal.param_types-returns
param_types-returns t c =
    param_turns (trees param_view c.args.list.now) (context_of c.args.self.now c.args.tags.now)
    ∙ ap with_types (turned_all param_view param_type plain c.args.list.now c.loop-param.param-index (context_of c.loop-param.self c.args.tags.now) c.loop-param.types.items _
    c.loop-param-test.false c.loop-param.invariant)
    ∙ ap (λ types. let found : Checked (Context × PlainTypes) = Ok (context_of c.loop-param.self c.args.tags.now, types) in found) (as_plain_list c.loop-param.types.items)

pub param_types-loop-param-init : goal.param_types-loop-param-init
param_types-loop-param-init t c =
    let whole = in_turn param_type (trees param_view c.args.list.now) (context_of c.args.self.now c.args.tags.now) in
    behind_none whole ∙ ap (λ vs. behind (map plain vs) whole) (sym c.new-types.ensures.items)

pub param_types-loop-param-preserved : goal.param_types-loop-param-preserved
param_types-loop-param-preserved t c =
    turned param_view param_type plain c.args.list.now c.loop-param.param-index c.param-item.result (context_of c.loop-param.self c.args.tags.now) (context_of c.param_type.new.self c.args.tags.now)
    c.loop-param.types.items c.push.new.self.items c.in_ok-param_type.field-0 _ c.param-item.is c.loop-param-test.true c.in_ok-param_type.ensures c.in_ok-push.ensures.items c.loop-param.invariant

pub param_types-returns-in_err-param_type : goal.param_types-returns-in_err-param_type
param_types-returns-in_err-param_type t c =
    let p = err_from_is_err_and c.from_residual.result c.from_residual.ensures.1 in
    let error = c.in_err-param_type.field-0.0 in
    let to : Vec CType Global → PlainTypes = λ types. plain_list types.items in
    let between : List PlainType → List PlainType = λ types. types in
    let d = context_of c.param_type.new.self c.args.tags.now in
    let start = context_of c.args.self.now c.args.tags.now in
    rw (p.1, p.2)
    (subst (λ (w : Checked (Context × PlainTypes)). Walks to d (Err error) w) (sym (param_turns (trees param_view c.args.list.now) start))
    (refused_next between to d d error (in_turn param_type (trees param_view c.args.list.now) start) _
    (turn_refused param_view param_type plain plain between c.args.list.now c.loop-param.param-index c.param-item.result (context_of c.loop-param.self c.args.tags.now) d
    c.loop-param.types.items error _ c.param-item.is c.loop-param-test.true c.loop-param.invariant c.in_err-param_type.ensures)))

-- expressions

pub kind-returns-in_ok-literal-in-Call : goal.kind-returns-in_ok-literal-in-Call
kind-returns-in_ok-literal-in-Call t c =
    let answered = subst (λ (vs : List Typed). Answers plain_typed c.call.result (call c.args.line c.in_ok-literal-in-Call.literal (plain_callee c.in_ok-function-in-Call.function) (map plain_typed vs)))
    c.deref-in-Call-5.ensures.value c.call.ensures in
    call_walks c.args.kind.now c.args.line c.in-Call.callee c.in-Call.arguments c.deref-in-Call.result.now c.deref-in-Call-2.result.now c.deref-in-Call-3.result.now c.deref-in-Call-4.result.now
    (context_of c.args.self.now c.args.tags.now) (context_of c.callee.new.self c.args.tags.now) (context_of c.values.new.self c.args.tags.now)
    (plain_callee c.in_ok-function-in-Call.function) (map plain_typed c.in_ok-values-in-Call.values.items) c.in_ok-literal-in-Call.literal c.call.result
    c.in-Call.is c.deref-in-Call.ensures c.deref-in-Call-2.ensures c.deref-in-Call-3.ensures.value c.deref-in-Call-4.ensures.value
    c.in_ok-function-in-Call.ensures c.in_ok-values-in-Call.ensures c.in_ok-literal-in-Call.ensures answered

pub kind-returns-in_err-function-in-Call : goal.kind-returns-in_err-function-in-Call
kind-returns-in_err-function-in-Call t c =
    let p = err_from_is_err_and c.from_residual-in_err-function-in-Call.result c.from_residual-in_err-function-in-Call.ensures.1 in
    rw (p.1, p.2)
    (call_refused c.args.kind.now c.args.line c.in-Call.callee c.in-Call.arguments c.deref-in-Call.result.now c.deref-in-Call-2.result.now
    (context_of c.args.self.now c.args.tags.now) (context_of c.callee.new.self c.args.tags.now) c.in_err-function-in-Call.field-0.0
    c.in-Call.is c.deref-in-Call.ensures c.deref-in-Call-2.ensures c.in_err-function-in-Call.ensures)

pub kind-returns-in_err-values-in-Call : goal.kind-returns-in_err-values-in-Call
kind-returns-in_err-values-in-Call t c =
    let p = err_from_is_err_and c.from_residual-in_err-values-in-Call.result c.from_residual-in_err-values-in-Call.ensures.1 in
    rw (p.1, p.2)
    (values_refused c.args.kind.now c.args.line c.in-Call.callee c.in-Call.arguments c.deref-in-Call.result.now c.deref-in-Call-2.result.now c.deref-in-Call-3.result.now
    (context_of c.args.self.now c.args.tags.now) (context_of c.callee.new.self c.args.tags.now) (context_of c.values.new.self c.args.tags.now)
    (plain_callee c.in_ok-function-in-Call.function) c.in_err-values-in-Call.field-0.0
    c.in-Call.is c.deref-in-Call.ensures c.deref-in-Call-2.ensures c.deref-in-Call-3.ensures.value c.in_ok-function-in-Call.ensures c.in_err-values-in-Call.ensures)

pub kind-returns-in_ok-ty-in-SizeofType : goal.kind-returns-in_ok-ty-in-SizeofType
kind-returns-in_ok-ty-in-SizeofType t c =
    sizeof_walks c.args.kind.now c.args.line c.in-SizeofType.typename c.deref-in-SizeofType.result.now
    (context_of c.args.self.now c.args.tags.now) (context_of c.typename.new.self c.args.tags.now) c.in_ok-ty-in-SizeofType.ty c.layered_size.result
    c.in-SizeofType.is c.deref-in-SizeofType.ensures c.in_ok-ty-in-SizeofType.ensures c.layered_size.ensures

pub kind-returns-in_err-ty-in-SizeofType : goal.kind-returns-in_err-ty-in-SizeofType
kind-returns-in_err-ty-in-SizeofType t c =
    let p = err_from_is_err_and c.from_residual-in_err-ty-in-SizeofType.result c.from_residual-in_err-ty-in-SizeofType.ensures.1 in
    rw (p.1, p.2)
    (sizeof_refused c.args.kind.now c.args.line c.in-SizeofType.typename c.deref-in-SizeofType.result.now
    (context_of c.args.self.now c.args.tags.now) (context_of c.typename.new.self c.args.tags.now) c.in_err-ty-in-SizeofType.field-0.0
    c.in-SizeofType.is c.deref-in-SizeofType.ensures c.in_err-ty-in-SizeofType.ensures)

pub kind-returns-in_err-typename-in-Cast : goal.kind-returns-in_err-typename-in-Cast
kind-returns-in_err-typename-in-Cast t c =
    let p = err_from_is_err_and c.from_residual-in_err-typename-in-Cast.result c.from_residual-in_err-typename-in-Cast.ensures.1 in
    rw (p.1, p.2)
    (cast_type_refused c.args.kind.now c.args.line c.in-Cast.typename c.in-Cast.operand c.deref-in-Cast.result.now
    (context_of c.args.self.now c.args.tags.now) (context_of c.typename-in-Cast.new.self c.args.tags.now) c.in_err-typename-in-Cast.field-0.0
    c.in-Cast.is c.deref-in-Cast.ensures c.in_err-typename-in-Cast.ensures)

pub kind-returns-in_err-x-in-Cast : goal.kind-returns-in_err-x-in-Cast
kind-returns-in_err-x-in-Cast t c =
    let p = err_from_is_err_and c.from_residual-in_err-x-in-Cast.result c.from_residual-in_err-x-in-Cast.ensures.1 in
    let named =
    c.in_ok-typename-in-Cast.ensures
    ∙ ap (λ (p : PlainType). let found : Checked (Context × PlainType) = Ok (context_of c.typename-in-Cast.new.self c.args.tags.now, p) in found) (sym c.ty-ty.ensures) in
    rw (p.1, p.2)
    (cast_value_refused c.args.kind.now c.args.line c.in-Cast.typename c.in-Cast.operand c.deref-in-Cast.result.now c.deref-in-Cast-2.result.now
    (context_of c.args.self.now c.args.tags.now) (context_of c.typename-in-Cast.new.self c.args.tags.now) (context_of c.cast_operand.new.self c.args.tags.now)
    (plain c.ty-ty.result) c.in_err-x-in-Cast.field-0.0
    c.in-Cast.is c.deref-in-Cast.ensures c.deref-in-Cast-2.ensures named
    (subst (λ (k : Bool). Walks plain_typed (context_of c.cast_operand.new.self c.args.tags.now) (Err c.in_err-x-in-Cast.field-0.0) (operand_of k (expr_view c.deref-in-Cast-2.result.now) (typed (expr_view c.deref-in-Cast-2.result.now) (context_of c.typename-in-Cast.new.self c.args.tags.now))))
    c.is_void.ensures c.in_err-x-in-Cast.ensures))

pub kind-returns-in_ok-x-in-Cast : goal.kind-returns-in_ok-x-in-Cast
kind-returns-in_ok-x-in-Cast t c =
    let named =
    c.in_ok-typename-in-Cast.ensures
    ∙ ap (λ (p : PlainType). let found : Checked (Context × PlainType) = Ok (context_of c.typename-in-Cast.new.self c.args.tags.now, p) in found) (sym c.ty-ty.ensures) in
    cast_walks c.args.kind.now c.args.line c.in-Cast.typename c.in-Cast.operand c.deref-in-Cast.result.now c.deref-in-Cast-2.result.now
    (context_of c.args.self.now c.args.tags.now) (context_of c.typename-in-Cast.new.self c.args.tags.now) (context_of c.cast_operand.new.self c.args.tags.now)
    (plain c.ty-ty.result) (plain_typed c.in_ok-x-in-Cast.x) c.cast.result
    c.in-Cast.is c.deref-in-Cast.ensures c.deref-in-Cast-2.ensures named
    (ap (λ (k : Bool). operand_of k (expr_view c.deref-in-Cast-2.result.now) (typed (expr_view c.deref-in-Cast-2.result.now) (context_of c.typename-in-Cast.new.self c.args.tags.now))) (sym c.is_void.ensures) ∙ c.in_ok-x-in-Cast.ensures) c.cast.ensures

-- assignments

pub kind-returns-in_err-x-in-Assign : goal.kind-returns-in_err-x-in-Assign
kind-returns-in_err-x-in-Assign t c =
    let p = err_from_is_err_and c.from_residual-in_err-x-in-Assign.result c.from_residual-in_err-x-in-Assign.ensures.1 in
    let is = c.in-Assign.is ∙ ap (λ (op : AssignOp). x.Assign op c.in-Assign.left c.in-Assign.right) (plain_op c.in-Assign.op (sym c.is_plain.ensures ∙ c.if-is_plain.true)) in
    rw (p.1, p.2)
    (assign_left_refused c.args.kind.now c.args.line c.in-Assign.left c.in-Assign.right c.deref-then-is_plain.result.now
    (context_of c.args.self.now c.args.tags.now) (context_of c.typed-then-is_plain.new.self c.args.tags.now) c.in_err-x-in-Assign.field-0.0
    is c.deref-then-is_plain.ensures c.in_err-x-in-Assign.ensures)

pub kind-returns-in_err-y-in-Assign : goal.kind-returns-in_err-y-in-Assign
kind-returns-in_err-y-in-Assign t c =
    let p = err_from_is_err_and c.from_residual-in_err-y-in-Assign.result c.from_residual-in_err-y-in-Assign.ensures.1 in
    let is = c.in-Assign.is ∙ ap (λ (op : AssignOp). x.Assign op c.in-Assign.left c.in-Assign.right) (plain_op c.in-Assign.op (sym c.is_plain.ensures ∙ c.if-is_plain.true)) in
    rw (p.1, p.2)
    (assign_right_refused c.args.kind.now c.args.line c.in-Assign.left c.in-Assign.right c.deref-then-is_plain.result.now c.deref-then-is_plain-2.result.now
    (context_of c.args.self.now c.args.tags.now) (context_of c.typed-then-is_plain.new.self c.args.tags.now) (context_of c.typed-then-is_plain-2.new.self c.args.tags.now)
    (plain_typed c.in_ok-x-in-Assign.x) c.in_err-y-in-Assign.field-0.0
    is c.deref-then-is_plain.ensures c.deref-then-is_plain-2.ensures c.in_ok-x-in-Assign.ensures c.in_err-y-in-Assign.ensures)

pub kind-returns-in_ok-y-in-Assign : goal.kind-returns-in_ok-y-in-Assign
kind-returns-in_ok-y-in-Assign t c =
    let is = c.in-Assign.is ∙ ap (λ (op : AssignOp). x.Assign op c.in-Assign.left c.in-Assign.right) (plain_op c.in-Assign.op (sym c.is_plain.ensures ∙ c.if-is_plain.true)) in
    assign_walks c.args.kind.now c.args.line c.line_of.result c.in-Assign.left c.in-Assign.right c.deref-then-is_plain.result.now c.deref-then-is_plain-2.result.now
    (context_of c.args.self.now c.args.tags.now) (context_of c.typed-then-is_plain.new.self c.args.tags.now) (context_of c.typed-then-is_plain-2.new.self c.args.tags.now)
    (plain_typed c.in_ok-x-in-Assign.x) (plain_typed c.in_ok-y-in-Assign.y) c.assigned.result
    is c.deref-then-is_plain.ensures c.deref-then-is_plain-2.ensures (c.line_of.ensures ∙ ap (λ (e : Expr). line_of (expr_view e)) c.deref-then-is_plain-3.ensures)
    c.in_ok-x-in-Assign.ensures c.in_ok-y-in-Assign.ensures c.assigned.ensures

pub kind-returns-in_err-x-in-Assign-2 : goal.kind-returns-in_err-x-in-Assign-2
kind-returns-in_err-x-in-Assign-2 t c =
    let p = err_from_is_err_and c.from_residual-in_err-x-in-Assign-2.result c.from_residual-in_err-x-in-Assign-2.ensures.1 in
    rw (p.1, p.2)
    (change_left_refused c.args.kind.now c.args.line c.in-Assign.op c.in-Assign.left c.in-Assign.right c.deref-else-is_plain.result.now
    (context_of c.args.self.now c.args.tags.now) (context_of c.changing.new.self c.args.tags.now) c.in_err-x-in-Assign-2.field-0.0
    c.in-Assign.is (other_op c.in-Assign.op (sym c.is_plain.ensures ∙ c.if-is_plain.false)) c.deref-else-is_plain.ensures c.in_err-x-in-Assign-2.ensures)

pub kind-returns-in_err-y-in-Assign-2 : goal.kind-returns-in_err-y-in-Assign-2
kind-returns-in_err-y-in-Assign-2 t c =
    let p = err_from_is_err_and c.from_residual-in_err-y-in-Assign-2.result c.from_residual-in_err-y-in-Assign-2.ensures.1 in
    rw (p.1, p.2)
    (change_right_refused c.args.kind.now c.args.line c.in-Assign.op c.in-Assign.left c.in-Assign.right c.deref-else-is_plain.result.now c.deref-else-is_plain-2.result.now
    (context_of c.args.self.now c.args.tags.now) (context_of c.changing.new.self c.args.tags.now) (context_of c.wanted-else-is_plain.new.self c.args.tags.now)
    (plain_typed c.in_ok-x-in-Assign-2.x) c.in_err-y-in-Assign-2.field-0.0
    c.in-Assign.is (other_op c.in-Assign.op (sym c.is_plain.ensures ∙ c.if-is_plain.false)) c.deref-else-is_plain.ensures c.deref-else-is_plain-2.ensures
    c.in_ok-x-in-Assign-2.ensures c.in_err-y-in-Assign-2.ensures)

pub kind-returns-in_ok-y-in-Assign-2 : goal.kind-returns-in_ok-y-in-Assign-2
kind-returns-in_ok-y-in-Assign-2 t c =
    change_walks c.args.kind.now c.args.line c.in-Assign.op c.in-Assign.left c.in-Assign.right c.deref-else-is_plain.result.now c.deref-else-is_plain-2.result.now
    (context_of c.args.self.now c.args.tags.now) (context_of c.changing.new.self c.args.tags.now) (context_of c.wanted-else-is_plain.new.self c.args.tags.now)
    (plain_typed c.in_ok-x-in-Assign-2.x) (plain_typed c.in_ok-y-in-Assign-2.y) c.changed.result
    c.in-Assign.is (other_op c.in-Assign.op (sym c.is_plain.ensures ∙ c.if-is_plain.false)) c.deref-else-is_plain.ensures c.deref-else-is_plain-2.ensures
    c.in_ok-x-in-Assign-2.ensures c.in_ok-y-in-Assign-2.ensures c.changed.ensures
