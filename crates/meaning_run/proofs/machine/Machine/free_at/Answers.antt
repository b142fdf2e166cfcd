use Rattle.meaning_run.proofs.machine.Machine.free_at.Goals as goal

pub returns : goal.returns
returns c = λ left. rw c.pointer-p.ensures at (c.free.ensures left)
