use Rattle.std.proofs.Common.{◌≡◌, ◌∙◌, [], Ok, ap}
use Rattle.heapsafe.specs.Execution.{AnswersCompiled}
use Rattle.heapsafe.specs.Shown.{written}
use Rattle.heapsafe.proofs.Served.{serves_none, serves_some}
use Rattle.heapsafe.proofs.written.write_compiled.Goals as goal

-- the bytes that are written are those of the file
pub returns-in-Ok : goal.returns-in-Ok
returns-in-Ok g c =
    serves_some _ _ _ (λ a. AnswersCompiled [] (Ok c.args.core.now) a) c.as_slice.result.now
    (c.in-Ok.bytes, c.in-Ok.ensures, ap written c.as_slice.ensures) c.write_text.ensures

pub returns-in-Err : goal.returns-in-Err
returns-in-Err g c = serves_none _ _ _ _ _ _ _ c.refuse.ensures
