use Rattle.meaning_run.proofs.machine.Machine.act_jump.Goals as goal

pub returns-in-Call : goal.returns-in-Call
returns-in-Call c = λ fits left. rw c.in-Call.is (rw c.as_slice.ensures at (c.call.ensures left))

pub returns-in-Return : goal.returns-in-Return
returns-in-Return c = λ fits left. rw c.in-Return.is (c.give.ensures left)
