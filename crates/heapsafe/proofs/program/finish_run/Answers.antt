use Rattle.std.proofs.Common.{◌∙◌, sym, subst}
use Rattle.heapsafe.specs.Saying.{SaysLeaks, telling_of}
use Rattle.heapsafe.proofs.Reported.{one_exit}
use Rattle.heapsafe.proofs.program.finish_run.Goals as goal

pub returns-in-Exit-clause-leaks : goal.returns-in-Exit-clause-leaks
returns-in-Exit-clause-leaks g c = λ code asked exits places objects keeps.
    subst (λ n. SaysLeaks (telling_of c.args.telling.now) objects c.args.io.now c.finish_exit.new.io n c.finish_exit.result)
    (one_exit c.in-Exit.code code (sym c.in-Exit.is ∙ exits)) (c.finish_exit.ensures.leaks asked places objects keeps)
