use Rattle.meaning_run.proofs.machine.Machine.realloc.Goals as goal

pub returns : goal.returns
returns c = λ left. rw (c.pointer-p.ensures, c.size_of-size.ensures) at (c.grow.ensures left)
