use Rattle.std.proofs.Common.{ℕ, List, sym, subst}
use Rattle.heapsafe.specs.Execution.{AnswersBytes, AnswersExecution, asked_of}
use Rattle.heapsafe.specs.Saying.{unread}
use Rattle.heapsafe.proofs.Told.{said_as}
use Rattle.heapsafe.proofs.Bytes.{is_short, short_is, unread_obeys}
use Rattle.heapsafe.proofs.Served.{obeys}
use Rattle.heapsafe.proofs.executing.execute_file.Goals as goal

pub returns-in-Ok : goal.returns-in-Ok
returns-in-Ok g c =
    let file = c.args.file.now in
    let asked = c.args.asked in
    obeys _ _ _ _ _ _ (asked_of file asked) (λ i a. AnswersBytes file c.in-Ok.bytes i asked a) c.in-Ok.ensures.cause
    (λ told k i a is.
    let read = c.in-Ok.ensures.bytes told k in
    is_short file i asked a (told file) read.1 (subst (λ (b : List ℕ). AnswersBytes file b i asked a) read.0 is))
    (λ told k i a is.
    let read = c.in-Ok.ensures.bytes told k in
    subst (λ (b : List ℕ). AnswersBytes file b i asked a) (sym read.0) (short_is file i asked a (told file) read.1 is))
    c.with_bytes.ensures

pub returns-in-Err : goal.returns-in-Err
returns-in-Err g c =
    unread_obeys _ _ _ _ _ _ c.args.file.now c.args.asked c.in-Err.error (λ told k. c.in-Err.ensures.bytes told k) c.in-Err.ensures.cause
    (said_as _ _ _ _ (unread c.in-Err.error c.args.file.now) c.reading_refusal.ensures c.refuse.ensures)
