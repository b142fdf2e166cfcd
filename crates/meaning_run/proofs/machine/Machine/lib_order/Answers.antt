use Rattle.meaning_run.proofs.machine.Machine.lib_order.Goals as goal

pub returns : goal.returns
returns c = λ left. rw (c.pointer_at-p.ensures, c.pointer_at-q.ensures) at (c.compare_strings.ensures left)
