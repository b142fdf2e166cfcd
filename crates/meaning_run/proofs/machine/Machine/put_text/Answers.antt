use Rattle.meaning_run.proofs.machine.Machine.put_text.Goals as goal

pub returns-clause-told : goal.returns-clause-told
returns-clause-told g c = λ left taken h. rw (c.as_slice.ensures, c.in_ok-push.ensures.ok) at (c.put_bytes.ensures.told left taken h)

pub returns-clause-moves : goal.returns-clause-moves
returns-clause-moves g c = λ left. rw (c.as_slice.ensures, c.in_ok-push.ensures.ok) at (c.put_bytes.ensures.moves left)
