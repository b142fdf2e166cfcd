use Rattle.std.proofs.Common.{ap, sym, ◌++◌, ◌∙◌}
use Rattle.flat_machine.specs.Running.{RunCounts}
use Rattle.flat_machine.proofs.Answered.{counts_finished, finished, left_finished, reached_lent}
use Rattle.flat_machine.proofs.running.run_lent.Goals as goal

pub returns-clause-told : goal.returns-clause-told
returns-clause-told g c = λ left n room taken stack l t first.
    let s = c.finish-end.new.self in
    let own = sym c.requires.lent_left ∙ l in
    let none = ap (λ ns. ns ++ c.new-console.result.page.notes) c.new-console.ensures.done ∙ c.new-console.ensures.page in
    let run = c.end_of_run-stopped.ensures.told left n room stack (reached_lent c.args.code.now left n room c.args.state.now _ _ own none first) in
    finished c.args.code.now left n room taken _ own _ s.done.notes s.page.notes c.finish-end.ensures.notes _ _ (s.within left own) (s.reads left own) (s.puts taken (sym c.requires.lent_taken ∙ t)) c.end_of_run-stopped.result c.finish-end.result run c.finish-end.ensures.end (c.finish-end.ensures.settled c.end_of_run-stopped.ensures.settled)

pub returns-clause-left : goal.returns-clause-left
returns-clause-left g c = λ left n room stack l first.
    let own = sym c.requires.lent_left ∙ l in
    let none = ap (λ ns. ns ++ c.new-console.result.page.notes) c.new-console.ensures.done ∙ c.new-console.ensures.page in
    let leaves = c.end_of_run-stopped.ensures.left left n room stack (reached_lent c.args.code.now left n room c.args.state.now _ _ own none first) in
    left_finished c.args.code.now left n room c.end_of_run-stopped.new.state c.end_of_run-stopped.result c.finish-end.result leaves c.finish-end.ensures.end

pub returns-clause-faults : goal.returns-clause-faults
returns-clause-faults g c =
    let faults : RunCounts c.end_of_run-stopped.result (g.I.Source.faults c.new-console.result.input.now) (g.I.Source.faults c.end_of_run-stopped.new.console.input.now) (g.O.Sink.faults c.new-console.result.out.now) (g.O.Sink.faults c.end_of_run-stopped.new.console.out.now) =
    c.end_of_run-stopped.ensures.faults in
    let counts = rw (c.new-console.ensures.input, c.new-console.ensures.out) at faults in
    counts_finished c.end_of_run-stopped.result c.finish-end.result _ _ _ _ _ _ counts c.finish-end.ensures.faults
