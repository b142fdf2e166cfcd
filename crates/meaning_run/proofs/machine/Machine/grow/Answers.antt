use Rattle.meaning_run.proofs.machine.Machine.grow.Goals as goal

pub returns-in-Null : goal.returns-in-Null
returns-in-Null c = λ left. rw c.in-Null.is (rw c.from.ensures at (c.make.ensures left))

pub returns-in-At : goal.returns-in-At
returns-in-At c = λ left. rw c.in-At.is (rw c.freed-named.ensures at (c.grow_from.ensures left))
