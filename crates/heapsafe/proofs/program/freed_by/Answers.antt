use Rattle.std.proofs.Common.{◌∙◌, Some, ap}
use Rattle.heapsafe.specs.Program.{freed_of}
use Rattle.bad_free_report.specs.declared.explanation.Freed.{Freed}
use Rattle.heapsafe.proofs.program.freed_by.Goals as goal

pub returns-in-Held : goal.returns-in-Held
returns-in-Held c = λ places objects keeps.
    rw c.in-Held.is (ap (λ (f : Freed). Some f) (c.freed_of.ensures ∙ ap freed_of (c.waiting_blocks.ensures places objects keeps)))

pub returns-in-Again : goal.returns-in-Again
returns-in-Again c = λ places objects keeps.
    rw c.in-Again.is (ap (λ (f : Freed). Some f) (c.freed_of-in-Again.ensures ∙ ap freed_of (c.waiting_blocks-in-Again.ensures places objects keeps)))
