use Rattle.std.proofs.Common.{sym, subst}
use Rattle.heapsafe.specs.declared.program.Way.{Way}
use Rattle.heapsafe.specs.Program.{AnswersWay, OnMachine}
use Rattle.heapsafe.specs.Serving.{Runs}
use Rattle.heapsafe.proofs.program.go.Goals as goal

pub returns-in-Run : goal.returns-in-Run
returns-in-Run g c =
    subst (λ (w : Way). Runs (OnMachine w) (λ i a. AnswersWay c.args.file.now c.args.opened.now c.args.core.now i w a) c.args.io.now c.run_core.new.io c.run_core.result) (sym c.in-Run.is) c.run_core.ensures

pub returns-in-Mean : goal.returns-in-Mean
returns-in-Mean g c =
    subst (λ (w : Way). Runs (OnMachine w) (λ i a. AnswersWay c.args.file.now c.args.opened.now c.args.core.now i w a) c.args.io.now c.mean_core.new.io c.mean_core.result) (sym c.in-Mean.is) c.mean_core.ensures
