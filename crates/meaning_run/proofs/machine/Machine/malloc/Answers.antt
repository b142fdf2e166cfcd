use Rattle.meaning_run.proofs.machine.Machine.malloc.Goals as goal

pub returns : goal.returns
returns c = λ left. rw (c.from.ensures, c.size_of-size.ensures) at (c.make.ensures left)
