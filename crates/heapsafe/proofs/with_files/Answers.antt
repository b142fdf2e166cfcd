use Rattle.std.proofs.Common.{ℕ, List, Some}
use Rattle.c_tree.specs.StatementView.{unit_view}
use Rattle.command_words.specs.Commands.{OnFiles, task_shown}
use Rattle.heapsafe.specs.Answer.{Does, spelt}
use Rattle.heapsafe.proofs.Told.{cause_of}
use Rattle.heapsafe.proofs.FilesRead.{answers_does, does_answers, unmade_obeys}
use Rattle.heapsafe.proofs.Served.{obeys}
use Rattle.heapsafe.proofs.with_files.Goals as goal

pub returns-in-Ok : goal.returns-in-Ok
returns-in-Ok g c =
    let files : List (List ℕ) = spelt c.args.files.now in
    let task = task_shown c.args.task in
    let program = c.in-Ok.program in
    obeys _ _ _ _ _ _ (Some (OnFiles files task)) (λ i a. Does c.first.result.now c.as_slice.result.now (unit_view program.unit) i task a) c.in-Ok.ensures.cause
    (λ told k. does_answers told files program (c.in-Ok.ensures.told told k) c.first.result.now c.as_slice.result.now c.first.ensures c.as_slice.ensures task)
    (λ told k. answers_does told files program (c.in-Ok.ensures.told told k) c.first.result.now c.as_slice.result.now c.first.ensures c.as_slice.ensures task)
    c.with_tree.ensures

pub returns-in-Err : goal.returns-in-Err
returns-in-Err g c =
    unmade_obeys _ _ _ _ _ _ (spelt c.args.files.now) (task_shown c.args.task) c.in-Err.error (λ told k. c.in-Err.ensures.told told k) c.in-Err.ensures.named
    (cause_of c.in-Err.error _ _ c.in-Err.ensures.cause) c.in-Err.ensures.cause c.refuse_program.ensures
