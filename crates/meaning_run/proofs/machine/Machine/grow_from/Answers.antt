use Rattle.meaning_run.proofs.machine.Machine.grow_from.Goals as goal

pub returns-in-Ok : goal.returns-in-Ok
returns-in-Ok c = λ left. rw c.in-Ok.is (c.grow_old.ensures left)
