use Rattle.std.proofs.lemmas.Result.{err_from_is_err_and}
use Rattle.c_pre.proofs.Left.{starts, goes, falls, ends_by, refused}
use Rattle.c_pre.proofs.Replacing.{steps_refused, steps_ended}
use Rattle.c_pre.proofs.scan.expand.Goals as goal

pub steps-init : goal.steps-init
steps-init c = starts c.args.macros.now c.args.tokens c.args.work _ (cc (c.in_ok-fresh.ensures))

pub returns-in_err-step : goal.returns-in_err-step
returns-in_err-step c =
    let p = err_from_is_err_and c.from_residual-in_err-step.result c.from_residual-in_err-step.ensures.1 in
    rw (p.1, p.2) (steps_refused c.args.macros.now c.args.tokens c.args.work _ (refused c.args.macros.now c.steps.scan c.step.new.self _ _ c.steps.invariant c.in_err-step.ensures))

pub steps-smaller : goal.steps-smaller
steps-smaller c = falls c.args.macros.now c.steps.scan c.step.new.self (rw c.if-branch.true at c.in_ok-step.ensures)

pub steps-preserved : goal.steps-preserved
steps-preserved c = goes c.args.macros.now c.steps.scan c.step.new.self _ c.steps.invariant (rw c.if-branch.true at c.in_ok-step.ensures)

pub returns : goal.returns
returns c =
    steps_ended c.args.macros.now c.args.tokens c.args.work _ (ends_by c.args.macros.now c.steps.scan _ _ _ c.steps.invariant (rw c.if-branch.false at c.in_ok-step.ensures))
