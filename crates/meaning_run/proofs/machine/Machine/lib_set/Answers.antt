use Rattle.meaning_run.proofs.machine.Machine.lib_set.Goals as goal

pub returns : goal.returns
returns c = λ left. rw (c.pointer_at-p.ensures, c.byte_at-byte.ensures, c.size_at-n.ensures) at (c.set_at.ensures left)
