use Rattle.std.proofs.Common.{sym, subst}
use Rattle.c_tree.specs.StatementView.{unit_view}
use Rattle.command_words.specs.declared.command.Task.{Task}
use Rattle.command_words.specs.Commands.{task_shown}
use Rattle.heapsafe.specs.Answer.{Does, HasOne, MeansNone, RunsNone}
use Rattle.heapsafe.specs.Serving.{Serves}
use Rattle.heapsafe.proofs.with_tree.Goals as goal

pub returns-in-Run : goal.returns-in-Run
returns-in-Run g c =
    subst (λ (t : Task). Serves (HasOne (task_shown t)) (MeansNone (task_shown t)) (RunsNone (task_shown t)) (λ i a. Does c.args.file.now c.args.opened.now (unit_view c.args.unit.now) i (task_shown t) a) c.args.io.now c.run_program.new.io c.run_program.result) (sym c.in-Run.is) c.run_program.ensures

pub returns-in-Mean : goal.returns-in-Mean
returns-in-Mean g c =
    subst (λ (t : Task). Serves (HasOne (task_shown t)) (MeansNone (task_shown t)) (RunsNone (task_shown t)) (λ i a. Does c.args.file.now c.args.opened.now (unit_view c.args.unit.now) i (task_shown t) a) c.args.io.now c.run_program-in-Mean.new.io c.run_program-in-Mean.result) (sym c.in-Mean.is) c.run_program-in-Mean.ensures

pub returns-in-Print : goal.returns-in-Print
returns-in-Print g c =
    subst (λ (t : Task). Serves (HasOne (task_shown t)) (MeansNone (task_shown t)) (RunsNone (task_shown t)) (λ i a. Does c.args.file.now c.args.opened.now (unit_view c.args.unit.now) i (task_shown t) a) c.args.io.now c.print.new.io c.print.result) (sym c.in-Print.is) c.print.ensures

pub returns-in-Layout : goal.returns-in-Layout
returns-in-Layout g c =
    subst (λ (t : Task). Serves (HasOne (task_shown t)) (MeansNone (task_shown t)) (RunsNone (task_shown t)) (λ i a. Does c.args.file.now c.args.opened.now (unit_view c.args.unit.now) i (task_shown t) a) c.args.io.now c.layouts.new.io c.layouts.result) (sym c.in-Layout.is) c.layouts.ensures

pub returns-in-List : goal.returns-in-List
returns-in-List g c =
    subst (λ (t : Task). Serves (HasOne (task_shown t)) (MeansNone (task_shown t)) (RunsNone (task_shown t)) (λ i a. Does c.args.file.now c.args.opened.now (unit_view c.args.unit.now) i (task_shown t) a) c.args.io.now c.core_list.new.io c.core_list.result) (sym c.in-List.is) c.core_list.ensures

pub returns-in-Live : goal.returns-in-Live
returns-in-Live g c =
    subst (λ (t : Task). Serves (HasOne (task_shown t)) (MeansNone (task_shown t)) (RunsNone (task_shown t)) (λ i a. Does c.args.file.now c.args.opened.now (unit_view c.args.unit.now) i (task_shown t) a) c.args.io.now c.core_live.new.io c.core_live.result) (sym c.in-Live.is) c.core_live.ensures

pub returns-in-Compile : goal.returns-in-Compile
returns-in-Compile g c =
    subst (λ (t : Task). Serves (HasOne (task_shown t)) (MeansNone (task_shown t)) (RunsNone (task_shown t)) (λ i a. Does c.args.file.now c.args.opened.now (unit_view c.args.unit.now) i (task_shown t) a) c.args.io.now c.core_compiled.new.io c.core_compiled.result) (sym c.in-Compile.is) c.core_compiled.ensures
