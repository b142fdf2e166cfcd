use Rattle.meaning_run.proofs.machine.Machine.lib_alone.Goals as goal

pub returns-in-Memcpy : goal.returns-in-Memcpy
returns-in-Memcpy c = λ left. rw c.in-Memcpy.is (c.lib_copy.ensures left)

pub returns-in-Memmove : goal.returns-in-Memmove
returns-in-Memmove c = λ left. rw c.in-Memmove.is (c.lib_copy-in-Memmove.ensures left)

pub returns-in-Memset : goal.returns-in-Memset
returns-in-Memset c = λ left. rw c.in-Memset.is (c.lib_set.ensures left)

pub returns-in-Strlen : goal.returns-in-Strlen
returns-in-Strlen c = λ left. rw c.in-Strlen.is (c.lib_length.ensures left)

pub returns-in-Strcmp : goal.returns-in-Strcmp
returns-in-Strcmp c = λ left. rw c.in-Strcmp.is (c.lib_order.ensures left)
