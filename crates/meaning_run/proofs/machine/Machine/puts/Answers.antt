use Rattle.meaning_run.proofs.machine.Machine.puts.Goals as goal

pub returns-in-Ok-clause-told : goal.returns-in-Ok-clause-told
returns-in-Ok-clause-told g c = λ left taken h. rw c.in-Ok.ensures (c.put_text.ensures.told left taken h)

pub returns-in-Ok-clause-moves : goal.returns-in-Ok-clause-moves
returns-in-Ok-clause-moves g c = λ left. rw c.in-Ok.ensures (c.put_text.ensures.moves left)
