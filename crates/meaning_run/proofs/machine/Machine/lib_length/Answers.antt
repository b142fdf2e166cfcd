use Rattle.meaning_run.proofs.machine.Machine.lib_length.Goals as goal

pub returns : goal.returns
returns c = λ left. rw c.pointer_at-p.ensures at (c.measure.ensures left)
