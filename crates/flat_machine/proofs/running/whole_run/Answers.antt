use Rattle.std.proofs.Common.{rules, sym, ◌∙◌}
use Rattle.flat_machine.proofs.running.whole_run.Goals as goal

pub returns-in-Ok-clause-told : goal.returns-in-Ok-clause-told
returns-in-Ok-clause-told g c = λ left n room taken same stack heap l t.
    let told = c.run_lent-end.ensures.told left n room taken (c.in-Ok.ensures.room ∙ sym stack) l t (c.in-Ok.ensures.reaches left n room same stack heap) in
    search rules

pub returns-clause-told : goal.returns-clause-told
returns-clause-told g c = λ left n room taken same stack heap l t.
    rw (l, t) (c.in-Err.ensures.ends left n room taken same stack)

pub returns-in-Ok-clause-left : goal.returns-in-Ok-clause-left
returns-in-Ok-clause-left g c = λ left n room taken same stack heap l t.
    c.run_lent-end.ensures.left left n room (c.in-Ok.ensures.room ∙ sym stack) l (c.in-Ok.ensures.reaches left n room same stack heap)

pub returns-clause-left : goal.returns-clause-left
returns-clause-left g c = λ left n room taken same stack heap l t. c.in-Err.ensures.left left n room same stack
