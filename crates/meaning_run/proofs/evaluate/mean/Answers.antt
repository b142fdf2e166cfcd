use Rattle.std.proofs.Common.{ℕ, ap, subst, arith}
use Rattle.meaning_state.specs.Fitting.{Held}
use Rattle.meaning_run.specs.Meant.{MeanAnswers}
use Rattle.std.proofs.lemmas.Result.{err_from_is_err_and}
use Rattle.meaning_run.proofs.Reached.{spent, nothing}
use Rattle.meaning_run.proofs.Steps.{starts_good, starts_begun, statics_short}
use Rattle.meaning_run.proofs.evaluate.mean.Goals as goal

pub returns-then-budget-eq0-clause-told : goal.returns-then-budget-eq0-clause-told
returns-then-budget-eq0-clause-told g c = λ left taken h i.
    spent c.args.core.now left taken c.args.budget c.args.heap _ _ c.if-budget-eq0.true h i

pub start-requires-clause-statics : goal.start-requires-clause-statics
start-requires-clause-statics g c = statics_short c.args.core.now c.requires.sound

pub end_of_run-requires-clause-good : goal.end_of_run-requires-clause-good
end_of_run-requires-clause-good g c =
    starts_good c.core_begins_well.ensures c.args.core.now c.requires.sound c.in_ok-machine.machine c.args.budget _ (omega arith) c.in_ok-machine.ensures

pub returns-clause-told : goal.returns-clause-told
returns-clause-told g c = λ left taken h i.
    let heap_is = ap (λ (x : Held). x.heap) c.new-held.ensures in
    subst (λ (n : ℕ). MeanAnswers c.args.core.now left c.args.budget n taken c.end_of_run.result (g.I.Source.left c.end_of_run.new.input) (g.O.Sink.taken c.end_of_run.new.out)) heap_is (c.end_of_run.ensures.told left taken c.args.budget h i (starts_begun c.args.core.now c.in_ok-machine.machine left c.args.budget _ (omega arith) c.in_ok-machine.ensures))

pub returns-in_err-machine-clause-told : goal.returns-in_err-machine-clause-told
returns-in_err-machine-clause-told g c = λ left taken h i.
    let e = err_from_is_err_and c.from_residual.result c.from_residual.ensures.1 in
    rw e.1 (nothing c.args.core.now left taken c.args.budget c.args.heap _ _ h i)
