use Rattle.std.proofs.Common.{◌∙◌, sym, arith}
use Rattle.std.proofs.lemmas.Result.{err_from_is_err_and}
use Rattle.c_tree.specs.StatementView.{trees, init_view}
use Rattle.elaboration.specs.Initializers.{surplus, all_surplus}
use Rattle.elab_statements.proofs.InitsInTurn.{fails_too, surplus_next, surplus_fails, surplus_end}
use Rattle.elab_statements.proofs.unwanted.+surplus.Goals as goal

pub all_surplus-returns : goal.all_surplus-returns
all_surplus-returns t c =
    sym c.loop-init.invariant
    ∙ surplus_end c.args.list.now c.loop-init.init-index c.loop-init.state (omega (arith, c.loop-init-test.false))

pub all_surplus-loop-init-preserved : goal.all_surplus-loop-init-preserved
all_surplus-loop-init-preserved t c =
    surplus_next c.args.list.now c.loop-init.init-index c.init-item.result c.loop-init.state c.surplus.new.state c.loop-init-test.true c.init-item.is c.in_ok-surplus.ensures
    ∙ c.loop-init.invariant

pub all_surplus-returns-in_err-surplus : goal.all_surplus-returns-in_err-surplus
all_surplus-returns-in_err-surplus t c =
    let p = err_from_is_err_and c.from_residual.result c.from_residual.ensures.1 in
    rw (p.1, p.2)
    (fails_too (λ (u : Unit {0}). c.surplus.new.state) (λ (u : Unit {0}). c.surplus.new.state) c.in_err-surplus.field-0.0
    (surplus (init_view c.init-item.result) c.loop-init.state) (all_surplus (trees init_view c.args.list.now) c.args.state.now)
    (λ r failed. sym c.loop-init.invariant ∙ surplus_fails c.args.list.now c.loop-init.init-index c.init-item.result c.loop-init.state r c.loop-init-test.true c.init-item.is failed)
    c.in_err-surplus.ensures)
