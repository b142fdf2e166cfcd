use Rattle.meaning_run.proofs.machine.Machine.lib_puts.Goals as goal

pub returns-clause-told : goal.returns-clause-told
returns-clause-told g c = λ left taken h. rw c.pointer_at-p.ensures at (c.puts.ensures.told left taken h)

pub returns-clause-moves : goal.returns-clause-moves
returns-clause-moves g c = λ left. rw c.pointer_at-p.ensures at (c.puts.ensures.moves left)
