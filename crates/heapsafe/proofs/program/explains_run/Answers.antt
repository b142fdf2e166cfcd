use Rattle.std.proofs.Common.{Option, Some, ap}
use Rattle.bad_free_report.specs.declared.explanation.Freed.{Freed}
use Rattle.bad_free_report.specs.declared.explanation.Known.{Known}
use Rattle.heapsafe.proofs.program.explains_run.Goals as goal

pub returns-then-explain : goal.returns-then-explain
returns-then-explain c = λ places objects keeps.
    let knows : Option Freed → Known = λ freed. record { limits = record { steps = c.args.steps; stack = c.args.limits.stack }; freed = freed } in
    rw c.if-explain.true (ap (λ freed. Some (knows freed)) (c.freed_at.ensures places objects keeps))
