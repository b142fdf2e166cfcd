use Rattle.std.proofs.Common.{◌≡◌, ◌∙◌, ℕ, ◌+◌, List, Some, None, Ok, Err, Vec, Global, map, sym, ap, refl}
use Rattle.std.specs.Prelude.{slice_get}
use Rattle.std.proofs.lemmas.Result.{err_from_is_err_and}
use Rattle.c_types.specs.Types.{PlainType, Void, plain}
use Rattle.core_tree.specs.declared.statements.Atom.{Atom}
use Rattle.c_tree.specs.Tree.{Tree}
use Rattle.c_tree.specs.StatementView.{expr_view, typename_view}
use Rattle.c_decls.specs.Refusals.{then}
use Rattle.c_decls.specs.Typed.{operand}
use Rattle.c_decls.specs.Callees.{Callee, NoFunction}
use Rattle.c_typing.specs.declared.callees.Callee.{Callee as CodeCallee}
use Rattle.c_typing.specs.Callee.{plain_callee}
use Rattle.elab_base.specs.declared.found.Found.{Found as CodeFound}
use Rattle.elab_base.specs.Marks.{cut}
use Rattle.elab_base.specs.PlainFound.{plain_found}
use Rattle.elab_rules.specs.declared.calls.Argument.{Argument as CodeArgument}
use Rattle.elab_rules.specs.PlainArguments.{plain_argument}
use Rattle.elab_values.specs.Arguments.{target_at, types_from, argument}
use Rattle.elab_values.proofs.Steps.{found_behind, index_is, comma_is, cast_is, cond_is, unary_node, binary_node, assign_node, unary_is, binary_is, change_is, callee_other}
use Rattle.elab_values.proofs.Forms.{refused_next, meets_by, binary_second, binary_third, and_second, or_second, choose_third, choose_last, cast_second, cast_last, assign_scalar, taken_last}
use Rattle.elab_values.proofs.Turns.{turned, turn_refused, turned_all, taken_is, loose_is, unknown_is, printed_is, behind_format_is}
use Rattle.elaboration.specs.Context.{Context, With, new_label}
use Rattle.elaboration.specs.Calls.{Argument}
use Rattle.elaboration.specs.Conversions.{Found, convert_to}
use Rattle.elaboration.specs.Rules.{between, cast_to, and_ended, or_ended, choose_first, chosen}
use Rattle.elaboration.specs.Expressions.{found, value_of, parameters, cast_operand}
use Rattle.elab_values.proofs.walk.+walk.Goals as goal

-- what code answers, as the definition has it
abbrev as_found : Context → CodeFound → Context × Found
as_found d e = (d, plain_found e)

-- forms

pub found-returns-in-Index : goal.found-returns-in-Index
found-returns-in-Index t c =
    meets_by _ _ _ _
    (index_is c.args.tree.now.kind c.in-Index.array c.in-Index.index c.deref-in-Index.result.now c.deref-in-Index-2.result.now c.args.tree.now.line
    (plain c.args.wanted.now) c.args.state.now c.in-Index.is c.deref-in-Index.ensures c.deref-in-Index-2.ensures)
    c.element.ensures

pub found-returns-in-Unary : goal.found-returns-in-Unary
found-returns-in-Unary t c =
    meets_by _ _ _ _
    (unary_node c.args.tree.now.kind c.in-Unary.op c.in-Unary.operand c.deref-in-Unary.result.now c.args.tree.now.line
    (plain c.args.wanted.now) c.args.state.now c.in-Unary.is c.deref-in-Unary.ensures)
    c.in_front.ensures

pub found-returns-in-Cast : goal.found-returns-in-Cast
found-returns-in-Cast t c =
    meets_by _ _ _ _
    (cast_is c.args.tree.now.kind c.in-Cast.ty c.in-Cast.operand c.deref-in-Cast.result.now c.deref-in-Cast-2.result.now c.args.tree.now.line
    (plain c.args.wanted.now) c.args.state.now c.in-Cast.is c.deref-in-Cast.ensures c.deref-in-Cast-2.ensures)
    c.cast.ensures

pub found-returns-in-Binary : goal.found-returns-in-Binary
found-returns-in-Binary t c =
    meets_by _ _ _ _
    (binary_node c.args.tree.now.kind c.in-Binary.op c.in-Binary.left c.in-Binary.right c.deref-in-Binary.result.now c.deref-in-Binary-2.result.now
    c.args.tree.now.line (plain c.args.wanted.now) c.args.state.now c.in-Binary.is c.deref-in-Binary.ensures c.deref-in-Binary-2.ensures)
    c.beside.ensures

pub found-returns-in-Cond : goal.found-returns-in-Cond
found-returns-in-Cond t c =
    meets_by _ _ _ _
    (cond_is c.args.tree.now.kind c.in-Cond.test c.in-Cond.first c.in-Cond.last c.deref-in-Cond.result.now c.deref-in-Cond-2.result.now c.deref-in-Cond-3.result.now
    c.args.tree.now.line (plain c.args.wanted.now) c.args.state.now c.in-Cond.is c.deref-in-Cond.ensures c.deref-in-Cond-2.ensures c.deref-in-Cond-3.ensures)
    c.choose.ensures

pub found-returns-in-Assign : goal.found-returns-in-Assign
found-returns-in-Assign t c =
    meets_by _ _ _ _
    (assign_node c.args.tree.now.kind c.in-Assign.op c.in-Assign.left c.in-Assign.right c.deref-in-Assign.result.now c.deref-in-Assign-2.result.now
    c.args.tree.now.line (plain c.args.wanted.now) c.args.state.now c.in-Assign.is c.deref-in-Assign.ensures c.deref-in-Assign-2.ensures)
    c.written.ensures

pub found-returns-in-Comma : goal.found-returns-in-Comma
found-returns-in-Comma t c =
    meets_by _ _ _ _
    (comma_is c.args.tree.now.kind c.in-Comma.left c.in-Comma.right c.deref-in-Comma.result.now c.deref-in-Comma-2.result.now c.args.tree.now.line
    (plain c.args.wanted.now) c.args.state.now c.in-Comma.is c.deref-in-Comma.ensures c.deref-in-Comma-2.ensures)
    c.comma.ensures

-- operators

pub in_front-returns-in_default : goal.in_front-returns-in_default
in_front-returns-in_default t c =
    meets_by _ _ _ _ (unary_is c.args.op c.args.line (expr_view c.args.e.now) Void c.args.state.now c.in_default.not-Address) c.unary.ensures

pub beside-returns-in_default : goal.beside-returns-in_default
beside-returns-in_default t c =
    meets_by _ _ _ _ (binary_is c.args.op c.args.line (expr_view c.args.e.now) (expr_view c.args.g.now) Void c.args.state.now c.in_default.not-And c.in_default.not-Or)
    c.binary.ensures

pub written-returns-in_default : goal.written-returns-in_default
written-returns-in_default t c =
    meets_by _ _ _ _ (change_is c.args.op c.args.line (expr_view c.args.e.now) (expr_view c.args.g.now) Void c.args.state.now c.in_default.not-Plain)
    c.change.ensures

pub and-returns : goal.and-returns
and-returns t c =
    let e = expr_view c.args.e.now in
    let g = expr_view c.args.g.now in
    let x = plain_found c.in_ok-x.x in
    let y = plain_found c.in_ok-y.y in
    meets_by _ _ _ _
    (and_second c.args.line e g c.args.state.now c.value_of.new.state c.and_then.new.state x c.in_ok-x.ensures c.in_ok-label.ensures.code
    ∙ ap (λ (w : With Found). then w (λ r. and_ended c.args.line (new_label c.value_of.new.state) g x r)) c.in_ok-y.ensures
    ∙ ap (λ (l : ℕ). and_ended c.args.line l g x (c.value_of-2.new.state, y)) (sym c.in_ok-label.ensures.label))
    (c.and_ended.ensures x refl)

pub or-returns : goal.or-returns
or-returns t c =
    let e = expr_view c.args.e.now in
    let g = expr_view c.args.g.now in
    let x = plain_found c.in_ok-x.x in
    let y = plain_found c.in_ok-y.y in
    let i = c.in_ok-ends.ends.1 in
    meets_by _ _ _ _
    (or_second c.args.line e g c.args.state.now c.value_of.new.state c.or_else.new.state i x c.in_ok-x.ensures c.in_ok-ends.ensures.code
    ∙ ap (λ (w : With Found). then w (λ r. or_ended c.args.line (new_label c.value_of.new.state + 1) g i x r)) c.in_ok-y.ensures
    ∙ ap (λ (l : ℕ). or_ended c.args.line l g i x (c.value_of-2.new.state, y)) (sym c.in_ok-ends.ensures.label))
    (c.or_ended.ensures x refl)

pub binary-returns : goal.binary-returns
binary-returns t c =
    meets_by _ _ _ _
    (binary_third c.args.line c.args.op c.args.e.now.kind c.args.g.now.kind c.args.e.now.line c.args.g.now.line c.mark-before.result c.mark-middle.result
    c.args.state.now c.value_of.new.state c.left_operand.new.state c.value_of-2.new.state (plain_found c.in_ok-x.x) (plain_found c.in_ok-left.left) (plain_found c.in_ok-y.y)
    c.mark-before.ensures c.in_ok-x.ensures c.in_ok-left.ensures c.mark-middle.ensures c.in_ok-y.ensures)
    c.between.ensures

pub binary-returns-in_err-y : goal.binary-returns-in_err-y
binary-returns-in_err-y t c =
    let p = err_from_is_err_and c.from_residual-in_err-y.result c.from_residual-in_err-y.ensures.1 in
    rw (p.1, p.2)
    (meets_by (as_found c.args.state.now) (Err c.in_err-y.field-0.0) _ _
    (binary_second c.args.line c.args.op c.args.e.now.kind c.args.e.now.line (expr_view c.args.g.now) c.mark-before.result
    c.args.state.now c.value_of.new.state c.left_operand.new.state (plain_found c.in_ok-x.x) (plain_found c.in_ok-left.left)
    c.mark-before.ensures c.in_ok-x.ensures c.in_ok-left.ensures)
    (refused_next (as_found c.value_of-2.new.state) (as_found c.args.state.now) c.in_err-y.field-0.0
    (value_of (expr_view c.args.g.now) Void c.left_operand.new.state)
    (λ (r : Context × Found). between c.args.line c.args.op c.left_operand.new.state.code r.0 (plain_found c.in_ok-left.left) r.1) c.in_err-y.ensures))

pub choose-returns : goal.choose-returns
choose-returns t c =
    let line = c.args.line in
    let test = plain_found c.in_ok-test.test in
    let x = plain_found c.in_ok-x.x in
    let y = plain_found c.in_ok-y.y in
    let before = cut c.mark-before.result c.value_of-2.new.state.code in
    let behind = cut c.mark-middle.result c.value_of-3.new.state.code in
    let label = c.in_ok-other.ensures.label in
    meets_by _ _ _ _
    (choose_last line (expr_view c.args.e.now) c.args.g.now.kind c.args.h.now.kind c.args.g.now.line c.args.h.now.line c.mark-before.result c.mark-middle.result
    c.args.state.now c.value_of.new.state c.and_then.new.state c.value_of-2.new.state c.choose_first.new.state c.value_of-3.new.state test x y c.in_ok-to.to
    c.in_ok-test.ensures c.in_ok-other.ensures.code c.mark-before.ensures c.in_ok-x.ensures
    (c.in_ok-to.ensures ∙ ap (λ (l : ℕ). choose_first line l before (plain c.in_ok-ty.ty) (c.value_of-2.new.state, x)) label
    ∙ ap (λ (type : PlainType). choose_first line (new_label c.value_of.new.state) before type (c.value_of-2.new.state, x)) c.in_ok-ty.ensures)
    c.mark-middle.ensures c.in_ok-y.ensures
    ∙ ap (λ (l : ℕ). chosen line l behind c.in_ok-to.to test x (c.value_of-3.new.state, y)) (sym (c.in_ok-end.ensures ∙ ap (λ (l : ℕ). l + 1) label)))
    (c.chosen.ensures test x refl refl)

pub choose-returns-in_err-y : goal.choose-returns-in_err-y
choose-returns-in_err-y t c =
    let p = err_from_is_err_and c.from_residual-in_err-y.result c.from_residual-in_err-y.ensures.1 in
    let line = c.args.line in
    let test = plain_found c.in_ok-test.test in
    let x = plain_found c.in_ok-x.x in
    let before = cut c.mark-before.result c.value_of-2.new.state.code in
    rw (p.1, p.2)
    (meets_by (as_found c.args.state.now) (Err c.in_err-y.field-0.0) _ _
    (choose_third line (expr_view c.args.e.now) (expr_view c.args.h.now) c.args.g.now.kind c.args.g.now.line c.mark-before.result
    c.args.state.now c.value_of.new.state c.and_then.new.state c.value_of-2.new.state c.choose_first.new.state test x c.in_ok-to.to
    c.in_ok-test.ensures c.in_ok-other.ensures.code c.mark-before.ensures c.in_ok-x.ensures
    (c.in_ok-to.ensures ∙ ap (λ (l : ℕ). choose_first line l before (plain c.in_ok-ty.ty) (c.value_of-2.new.state, x)) c.in_ok-other.ensures.label
    ∙ ap (λ (type : PlainType). choose_first line (new_label c.value_of.new.state) before type (c.value_of-2.new.state, x)) c.in_ok-ty.ensures))
    (refused_next (as_found c.value_of-3.new.state) (as_found c.args.state.now) c.in_err-y.field-0.0
    (value_of (expr_view c.args.h.now) Void c.choose_first.new.state)
    (λ (r : Context × Found). chosen line (new_label c.value_of.new.state + 1) c.choose_first.new.state.code c.in_ok-to.to test x r) c.in_err-y.ensures))

pub cast-returns : goal.cast-returns
cast-returns t c =
    meets_by _ _ _ _
    (cast_last c.args.line (typename_view c.args.ty.now) c.args.e.now.kind c.args.e.now.line c.mark-before.result
    c.args.state.now c.typename.new.state c.cast_operand.new.state (plain c.in_ok-ty.ty) (plain_found c.in_ok-x.x)
    c.mark-before.ensures c.in_ok-ty.ensures c.in_ok-x.ensures)
    c.cast_to.ensures

pub cast-returns-in_err-x : goal.cast-returns-in_err-x
cast-returns-in_err-x t c =
    let p = err_from_is_err_and c.from_residual-in_err-x.result c.from_residual-in_err-x.ensures.1 in
    let type = plain c.in_ok-ty.ty in
    let e = expr_view c.args.e.now in
    rw (p.1, p.2)
    (meets_by (as_found c.args.state.now) (Err c.in_err-x.field-0.0) _ _
    (cast_second c.args.line (typename_view c.args.ty.now) e c.args.state.now c.typename.new.state type c.in_ok-ty.ensures)
    (refused_next (as_found c.cast_operand.new.state) (as_found c.args.state.now) c.in_err-x.field-0.0 (cast_operand type e (found e type c.typename.new.state))
    (λ (d : Context × Found). cast_to c.args.line type c.args.state.now.code d.0 d.1) c.in_err-x.ensures))

pub assign-returns-else-is_record : goal.assign-returns-else-is_record
assign-returns-else-is_record t c =
    let x = plain_found c.in_ok-target.target in
    let y = plain_found c.in_ok-y.y in
    meets_by _ _ _ _
    (assign_scalar c.args.line (expr_view c.args.e.now) (expr_view c.args.g.now) c.args.state.now c.found.new.state c.found-2.new.state x y
    c.in_ok-target.ensures c.in_ok-y.ensures (sym c.is_record.ensures ∙ c.if-is_record.false))
    (c.scalar_assigned.ensures c.found.new.state.code (sym c.mark-before.ensures)
    (found_behind c.args.g.now.kind c.args.g.now.line (plain c.in_ok-target.target.typed.ty) c.found.new.state c.found-2.new.state y c.in_ok-y.ensures))

-- calls

pub callee-returns-in_ok-value_of-in_default : goal.callee-returns-in_ok-value_of-in_default
callee-returns-in_ok-value_of-in_default t c =
    callee_other c.args.tree.now.kind c.args.tree.now.line c.args.state.now (found (expr_view c.args.tree.now) Void c.args.state.now) c.in_default.not-Name
    ∙ ap (λ (w : With Found). then w (λ d. let target : With Callee = Ok (d.0, NoFunction) in target)) c.in_ok-value_of-in_default.ensures

pub callee-returns-in_err-value_of-in_default : goal.callee-returns-in_err-value_of-in_default
callee-returns-in_err-value_of-in_default t c =
    let p = err_from_is_err_and c.from_residual.result c.from_residual.ensures.1 in
    let error = c.in_err-value_of-in_default.field-0.0 in
    let answer : CodeCallee → Context × Callee = λ target. (c.args.state.now, plain_callee target) in
    rw (p.1, p.2)
    (meets_by answer (Err error) _ _
    (callee_other c.args.tree.now.kind c.args.tree.now.line c.args.state.now (found (expr_view c.args.tree.now) Void c.args.state.now) c.in_default.not-Name)
    (refused_next (as_found c.value_of.new.state) answer error (value_of (expr_view c.args.tree.now) Void c.args.state.now)
    (λ (d : Context × Found). let target : With Callee = Ok (d.0, NoFunction) in target) c.in_err-value_of-in_default.ensures))

-- arguments

pub arguments-returns : goal.arguments-returns
arguments-returns t c =
    let target = plain_callee c.args.target.now in
    turned_all c.args.line target (parameters target) c.args.list.now c.loop-place.place c.loop-place.state c.loop-place.values.items _
    c.loop-place-test.false c.loop-place.invariant

pub arguments-loop-place-preserved : goal.arguments-loop-place-preserved
arguments-loop-place-preserved t c =
    let target = plain_callee c.args.target.now in
    turned c.args.line target (parameters target) c.args.list.now c.loop-place.place c.index-list-place.result c.loop-place.state c.argument.new.state
    c.loop-place.values.items c.push.new.self.items c.in_ok-argument.field-0 _ c.index-list-place.is c.loop-place-test.true c.in_ok-argument.ensures
    c.in_ok-push.ensures.items c.loop-place.invariant

pub arguments-returns-in_err-argument : goal.arguments-returns-in_err-argument
arguments-returns-in_err-argument t c =
    let p = err_from_is_err_and c.from_residual.result c.from_residual.ensures.1 in
    let target = plain_callee c.args.target.now in
    let one : CodeArgument → Context × Argument = λ v. (c.argument.new.state, plain_argument v) in
    let all : Vec CodeArgument Global → Context × List Argument = λ vs. (c.argument.new.state, map plain_argument vs.items) in
    rw (p.1, p.2)
    (turn_refused c.args.line target (parameters target) one all c.args.list.now c.loop-place.place c.index-list-place.result c.loop-place.state
    c.loop-place.values.items c.in_err-argument.field-0.0 _ c.index-list-place.is c.loop-place-test.true c.loop-place.invariant c.in_err-argument.ensures)

abbrev argument_of : ℕ → ℕ → Tree → Context → CodeCallee → With Argument
argument_of line place tree c target = argument line (target_at place (plain_callee target)) (types_from place (parameters (plain_callee target))) tree c

pub argument-returns-in-Some : goal.argument-returns-in-Some
argument-returns-in-Some t c =
    let tree = expr_view c.args.e.now in
    let s = c.in-Takes.signature in
    let there : slice_get s.params.items c.args.place ≡ Some c.in-Some.ty.now = sym c.in-Some.ensures in
    meets_by _ _ _ _
    (ap (argument_of c.args.line c.args.place tree c.args.state.now) c.in-Takes.is
    ∙ taken_is c.args.line (plain s.result) s.params.items c.args.place c.in-Some.ty.now tree c.args.state.now there)
    c.taken_argument.ensures

pub argument-returns-in-None : goal.argument-returns-in-None
argument-returns-in-None t c =
    let tree = expr_view c.args.e.now in
    let s = c.in-Takes.signature in
    let there : slice_get s.params.items c.args.place ≡ None = sym c.in-None.ensures in
    meets_by _ _ _ _
    (ap (argument_of c.args.line c.args.place tree c.args.state.now) c.in-Takes.is
    ∙ loose_is c.args.line (plain s.result) s.params.items c.args.place tree c.args.state.now there)
    c.loose_argument.ensures

pub argument-returns-then-place-eq0 : goal.argument-returns-then-place-eq0
argument-returns-then-place-eq0 t c =
    let tree = expr_view c.args.e.now in
    meets_by _ _ _ _
    (ap (argument_of c.args.line c.args.place tree c.args.state.now) c.in-Prints.is
    ∙ printed_is c.args.line c.args.place tree c.args.state.now c.if-place-eq0.true)
    c.printed_argument.ensures

pub argument-returns-else-place-eq0 : goal.argument-returns-else-place-eq0
argument-returns-else-place-eq0 t c =
    let tree = expr_view c.args.e.now in
    meets_by _ _ _ _
    (ap (argument_of c.args.line c.args.place tree c.args.state.now) c.in-Prints.is
    ∙ behind_format_is c.args.line c.args.place tree c.args.state.now c.if-place-eq0.false)
    c.loose_argument-else-place-eq0.ensures

pub argument-returns-in-NoFunction : goal.argument-returns-in-NoFunction
argument-returns-in-NoFunction t c =
    let tree = expr_view c.args.e.now in
    meets_by _ _ _ _
    (ap (argument_of c.args.line c.args.place tree c.args.state.now) c.in-NoFunction.is
    ∙ unknown_is c.args.line c.args.place tree c.args.state.now)
    c.loose_argument-in-NoFunction.ensures

pub taken_argument-returns : goal.taken_argument-returns
taken_argument-returns t c =
    let x = plain_found c.in_ok-x.x in
    let s = c.value_of.new.state in
    taken_last c.args.line c.args.e.now.kind c.args.e.now.line c.mark-before.result c.args.state.now s c.convert.new.self (plain c.args.ty.now) x c.in_ok-atom.atom
    c.mark-before.ensures c.in_ok-x.ensures
    (c.in_ok-atom.ensures
    ∙ ap (λ (a : Atom). convert_to c.args.line (cut c.mark-before.result s.code) (operand (plain c.args.ty.now)) (operand (plain c.in_ok-x.x.typed.ty)) a s) c.atom.ensures)
