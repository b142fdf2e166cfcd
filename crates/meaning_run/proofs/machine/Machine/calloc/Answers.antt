use Rattle.meaning_run.proofs.machine.Machine.calloc.Goals as goal

pub returns : goal.returns
returns c = λ left. rw (c.from.ensures, c.from-2.ensures, c.size_of-count.ensures, c.size_of-size.ensures) at (c.make.ensures left)
