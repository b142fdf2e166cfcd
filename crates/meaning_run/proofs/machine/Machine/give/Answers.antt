use Rattle.meaning_run.proofs.machine.Machine.give.Goals as goal

pub returns : goal.returns
returns c = λ left. rw c.returned-answer.ensures at (c.give_back.ensures left)
