use Rattle.meaning_run.proofs.machine.Machine.free.Goals as goal

pub returns-in-At : goal.returns-in-At
returns-in-At c = λ left. rw c.in-At.is (rw c.freed-named.ensures at (c.free_named.ensures left))
