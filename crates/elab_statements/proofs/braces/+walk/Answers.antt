use Rattle.std.proofs.Common.{◌≡◌, ◌<◌, ◌+◌, ◌-◌, ◌∙◌, ap, sym, length, drop, take, map, List, false, arith}
use Rattle.std.proofs.lemmas.Result.{err_from_is_err_and}
use Rattle.std.proofs.lemmas.Grind.{common_steps}
use Rattle.c_types.specs.Types.{plain}
use Rattle.c_tree.specs.declared.statement.Init.{Init}
use Rattle.c_tree.specs.StatementView.{trees, init_view}
use Rattle.elaboration.specs.Initializers.{all_surplus, elements, initialize, initialize_parts}
use Rattle.elab_statements.specs.declared.targets.Target.{Target}
use Rattle.elab_statements.specs.Braces.{in_braces}
use Rattle.elab_statements.specs.PlainParts.{plain_part}
use Rattle.elab_statements.specs.PlainTarget.{plain_target}
use Rattle.elab_statements.proofs.Forms.{init_list}
use Rattle.elab_statements.proofs.InitsInTurn.{fails_too, parts_end}
use Rattle.elab_statements.proofs.PartsInTurn.{element_next, element_fails, elements_over, elements_over_fail, member_next, member_fails, members_over, members_over_fail}
use Rattle.elab_statements.proofs.braces.+walk.Goals as goal

pub initialize-returns-in-List : goal.initialize-returns-in-List
initialize-returns-in-List t c =
    rw (init_list c.args.in_scalar (plain c.args.ty.now) c.args.offset (plain_target c.args.target) c.args.state.now c.args.init.now.kind c.in-List.list _ c.args.init.now.line c.in-List.is
    ∙ ap (λ (l : List Init). in_braces c.args.init.now.line (trees init_view l) c.args.in_scalar (plain c.args.ty.now) c.args.offset (plain_target c.args.target) c.args.state.now) (sym c.deref.ensures.value))
    c.list_of.ensures

pub elements-returns : goal.elements-returns
elements-returns t c =
    sym c.loop-place.invariant
    ∙ parts_end c.args.line c.args.in_scalar c.args.list.now c.loop-place.place (elements (length c.args.list.now - c.loop-place.place) c.loop-place.left c.loop-place.at c.args.size (plain c.args.element.now)) (plain_target c.loop-place.filled) c.loop-place.state (omega (arith, c.loop-place-test.false))

pub elements-loop-place-preserved : goal.elements-loop-place-preserved
elements-loop-place-preserved t c =
    let some : 0 < c.loop-place.left = omega arith in
    let next : c.in_ok-at.at ≡ c.loop-place.at + c.args.size = grind (arith, common_steps) in
    element_next c.args.line c.args.in_scalar c.args.list.now c.loop-place.place c.index-list-place.result c.args.size (plain c.args.element.now) c.loop-place.left c.loop-place.at c.in_ok-at.at (plain_target c.loop-place.filled) (plain_target c.in_ok-filled.filled) c.loop-place.state c.initialize.new.state c.loop-place-test.true c.index-list-place.is some next c.in_ok-filled.ensures
    ∙ c.loop-place.invariant

pub elements-returns-in_err-filled : goal.elements-returns-in_err-filled
elements-returns-in_err-filled t c =
    let p = err_from_is_err_and c.from_residual-in_err-filled.result c.from_residual-in_err-filled.ensures.1 in
    let some : 0 < c.loop-place.left = omega arith in
    rw (p.1, p.2)
    (fails_too (λ (filled : Target). (c.initialize.new.state, plain_target filled)) (λ (filled : Target). (c.initialize.new.state, plain_target filled)) c.in_err-filled.field-0.0
    (initialize (init_view c.index-list-place.result) c.args.in_scalar (plain c.args.element.now) c.loop-place.at (plain_target c.loop-place.filled) c.loop-place.state)
    (initialize_parts c.args.line (trees init_view c.args.list.now) c.args.in_scalar (elements (length c.args.list.now) c.args.count c.args.offset c.args.size (plain c.args.element.now)) (plain_target c.args.target) c.args.state.now)
    (λ r failed. sym c.loop-place.invariant ∙ element_fails c.args.line c.args.in_scalar c.args.list.now c.loop-place.place c.index-list-place.result c.args.size (plain c.args.element.now) c.loop-place.left c.loop-place.at (plain_target c.loop-place.filled) c.loop-place.state r c.loop-place-test.true c.index-list-place.is some failed)
    c.in_err-filled.ensures)

pub elements-returns-in_err-all_surplus : goal.elements-returns-in_err-all_surplus
elements-returns-in_err-all_surplus t c =
    let p = err_from_is_err_and c.from_residual.result c.from_residual.ensures.1 in
    let none : c.loop-place.left ≡ 0 = grind (arith, common_steps) in
    rw (p.1, p.2)
    (fails_too (λ (u : Unit {0}). c.all_surplus.new.state) (λ (filled : Target). (c.all_surplus.new.state, plain_target filled)) c.in_err-all_surplus.field-0.0
    (all_surplus (trees init_view (take (length c.args.list.now - c.loop-place.place) (drop c.loop-place.place c.args.list.now))) c.loop-place.state)
    (initialize_parts c.args.line (trees init_view c.args.list.now) c.args.in_scalar (elements (length c.args.list.now) c.args.count c.args.offset c.args.size (plain c.args.element.now)) (plain_target c.args.target) c.args.state.now)
    (λ r failed. sym c.loop-place.invariant ∙ elements_over_fail c.args.line c.args.in_scalar c.args.list.now c.loop-place.place c.index-list-place.result c.args.size (plain c.args.element.now) c.loop-place.left c.loop-place.at (plain_target c.loop-place.filled) c.loop-place.state r c.loop-place-test.true c.index-list-place.is none failed)
    c.in_err-all_surplus.ensures)

pub elements-returns-then-left-eq0 : goal.elements-returns-then-left-eq0
elements-returns-then-left-eq0 t c =
    let none : c.loop-place.left ≡ 0 = grind (arith, common_steps) in
    rw c.refused.ensures
    (sym c.loop-place.invariant ∙ elements_over c.args.line c.args.in_scalar c.args.list.now c.loop-place.place c.index-list-place.result c.args.size (plain c.args.element.now) c.loop-place.left c.loop-place.at (plain_target c.loop-place.filled) c.loop-place.state c.all_surplus.new.state c.loop-place-test.true c.index-list-place.is none c.in_ok-all_surplus.ensures)

pub members-returns : goal.members-returns
members-returns t c =
    sym c.loop-place.invariant
    ∙ parts_end c.args.line false c.args.list.now c.loop-place.place (map plain_part (drop c.loop-place.place c.args.parts.now)) (plain_target c.loop-place.filled) c.loop-place.state (omega (arith, c.loop-place-test.false))

pub members-loop-place-preserved : goal.members-loop-place-preserved
members-loop-place-preserved t c =
    member_next c.args.line false c.args.list.now c.loop-place.place c.index-list-place.result c.args.parts.now c.in-Some.part.now (plain_target c.loop-place.filled) (plain_target c.in_ok-filled.filled) c.loop-place.state c.initialize.new.state c.loop-place-test.true c.index-list-place.is (sym c.in-Some.ensures) c.in_ok-filled.ensures
    ∙ c.loop-place.invariant

pub members-returns-in_default : goal.members-returns-in_default
members-returns-in_default t c =
    rw c.refused.ensures
    (sym c.loop-place.invariant
    ∙ members_over c.args.line false c.args.list.now c.loop-place.place c.index-list-place.result c.args.parts.now (plain_target c.loop-place.filled) c.loop-place.state c.all_surplus.new.state c.loop-place-test.true c.index-list-place.is (sym c.in_default.ensures) c.in_ok-all_surplus.ensures)

pub members-returns-in_err-all_surplus : goal.members-returns-in_err-all_surplus
members-returns-in_err-all_surplus t c =
    let p = err_from_is_err_and c.from_residual.result c.from_residual.ensures.1 in
    rw (p.1, p.2)
    (fails_too (λ (u : Unit {0}). c.all_surplus.new.state) (λ (filled : Target). (c.all_surplus.new.state, plain_target filled)) c.in_err-all_surplus.field-0.0
    (all_surplus (trees init_view (take (length c.args.list.now - c.loop-place.place) (drop c.loop-place.place c.args.list.now))) c.loop-place.state)
    (initialize_parts c.args.line (trees init_view c.args.list.now) false (map plain_part c.args.parts.now) (plain_target c.args.target) c.args.state.now)
    (λ r failed. sym c.loop-place.invariant ∙ members_over_fail c.args.line false c.args.list.now c.loop-place.place c.index-list-place.result c.args.parts.now (plain_target c.loop-place.filled) c.loop-place.state r c.loop-place-test.true c.index-list-place.is (sym c.in_default.ensures) failed)
    c.in_err-all_surplus.ensures)

pub members-returns-in_err-filled : goal.members-returns-in_err-filled
members-returns-in_err-filled t c =
    let p = err_from_is_err_and c.from_residual-in_err-filled.result c.from_residual-in_err-filled.ensures.1 in
    rw (p.1, p.2)
    (fails_too (λ (filled : Target). (c.initialize.new.state, plain_target filled)) (λ (filled : Target). (c.initialize.new.state, plain_target filled)) c.in_err-filled.field-0.0
    (initialize (init_view c.index-list-place.result) false (plain c.in-Some.part.now.ty) c.in-Some.part.now.offset (plain_target c.loop-place.filled) c.loop-place.state)
    (initialize_parts c.args.line (trees init_view c.args.list.now) false (map plain_part c.args.parts.now) (plain_target c.args.target) c.args.state.now)
    (λ r failed. sym c.loop-place.invariant ∙ member_fails c.args.line false c.args.list.now c.loop-place.place c.index-list-place.result c.args.parts.now c.in-Some.part.now (plain_target c.loop-place.filled) c.loop-place.state r c.loop-place-test.true c.index-list-place.is (sym c.in-Some.ensures) failed)
    c.in_err-filled.ensures)
