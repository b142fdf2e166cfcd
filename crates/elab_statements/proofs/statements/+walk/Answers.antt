-- Statements in turn, and the kinds of statements that have trees of their own.
use Rattle.std.proofs.Common.{◌∙◌, sym, arith, rules}
use Rattle.std.proofs.lemmas.Grind.{common_steps}
use Rattle.std.proofs.lemmas.Result.{err_from_is_err_and}
use Rattle.elab_statements.specs.PlainAround.{plain_around}
use Rattle.elab_statements.proofs.InTurn.{item_next, item_err, items_end}
use Rattle.elab_statements.proofs.Returns.{carried}
use Rattle.elab_statements.proofs.StatementKinds.{block_is, delay_is, if_is, while_is, for_is, switch_is, case_is}
use Rattle.elab_statements.proofs.statements.+walk.Goals as goal

pub items-returns : goal.items-returns
items-returns t c =
    sym c.loop-item.invariant
    ∙ items_end (plain_around c.args.around) c.args.list.now c.loop-item.item-index c.loop-item.state (omega (arith, c.loop-item-test.false))

pub items-loop-item-preserved : goal.items-loop-item-preserved
items-loop-item-preserved t c =
    item_next (plain_around c.args.around) c.args.list.now c.loop-item.item-index c.item-item.result c.loop-item.state c.statement.new.state c.loop-item-test.true c.item-item.is c.in_ok-statement.ensures
    ∙ c.loop-item.invariant

pub items-returns-in_err-statement : goal.items-returns-in_err-statement
items-returns-in_err-statement t c =
    let p = err_from_is_err_and c.from_residual.result c.from_residual.ensures.1 in
    rw (p.1, p.2)
    (item_err (plain_around c.args.around) c.args.list.now c.loop-item.item-index c.item-item.result c.loop-item.state c.statement.new.state _ _ c.loop-item-test.true c.item-item.is c.loop-item.invariant c.in_err-statement.ensures)

pub kind-returns-in-Block : goal.kind-returns-in-Block
kind-returns-in-Block t c =
    let e = block_is c.args.kind.now c.args.line (plain_around c.args.around) c.args.state.now c.in-Block.list c.in-Block.is in
    carried (λ (u : Unit {0}). c.scoped_items.new.state) c.scoped_items.result _ _ c.scoped_items.ensures (first_of (cc, grind (arith, common_steps, e), search (rules, e)))

pub kind-returns-in-Delay : goal.kind-returns-in-Delay
kind-returns-in-Delay t c =
    let e = delay_is c.args.kind.now c.args.line (plain_around c.args.around) c.args.state.now c.in-Delay.list c.in-Delay.is in
    carried (λ (u : Unit {0}). c.delay.new.state) c.delay.result _ _ c.delay.ensures (first_of (cc, grind (arith, common_steps, e), search (rules, e)))

pub kind-returns-in-None : goal.kind-returns-in-None
kind-returns-in-None t c =
    let e = if_is c.args.kind.now c.args.line (plain_around c.args.around) c.args.state.now c.in-If.test c.in-If.body c.in-If.other c.in-If.is c.in-None.is in
    carried (λ (u : Unit {0}). c.branch-state.new.state) c.branch-state.result _ _ c.branch-state.ensures (first_of (cc, grind (arith, common_steps, e), search (rules, e)))

pub kind-returns-in-While : goal.kind-returns-in-While
kind-returns-in-While t c =
    let e = while_is c.args.kind.now c.args.line (plain_around c.args.around) c.args.state.now c.in-While.test c.in-While.body c.in-While.is in
    carried (λ (u : Unit {0}). c.while_loop.new.state) c.while_loop.result _ _ c.while_loop.ensures (first_of (cc, grind (arith, common_steps, e), search (rules, e)))

pub kind-returns-in-For : goal.kind-returns-in-For
kind-returns-in-For t c =
    let e = for_is c.args.kind.now c.args.line (plain_around c.args.around) c.args.state.now c.in-For.start c.in-For.test c.in-For.step c.in-For.body c.in-For.is in
    carried (λ (u : Unit {0}). c.for_loop.new.state) c.for_loop.result _ _ c.for_loop.ensures (first_of (cc, grind (arith, common_steps, e), search (rules, e)))

pub kind-returns-in-Switch : goal.kind-returns-in-Switch
kind-returns-in-Switch t c =
    let e = switch_is c.args.kind.now c.args.line (plain_around c.args.around) c.args.state.now c.in-Switch.value c.in-Switch.body c.in-Switch.is in
    carried (λ (u : Unit {0}). c.switch.new.state) c.switch.result _ _ c.switch.ensures (first_of (cc, grind (arith, common_steps, e), search (rules, e)))

pub kind-returns-in-Case : goal.kind-returns-in-Case
kind-returns-in-Case t c =
    let e = case_is c.args.kind.now c.args.line (plain_around c.args.around) c.args.state.now c.in-Case.value c.in-Case.body c.in-Case.is in
    carried (λ (u : Unit {0}). c.case.new.state) c.case.result _ _ c.case.ensures (first_of (cc, grind (arith, common_steps, e), search (rules, e)))
