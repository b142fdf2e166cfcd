use Rattle.meaning_run.proofs.machine.Machine.lib_copy.Goals as goal

pub returns : goal.returns
returns c = λ left. rw (c.pointer_at-d.ensures, c.pointer_at-s.ensures, c.size_at-n.ensures) at (c.copy_to.ensures left)
