use Rattle.flat_machine.proofs.state.State.act_range_lib.Goals as goal

pub returns-in-Memcpy-clause-leads : goal.returns-in-Memcpy-clause-leads
returns-in-Memcpy-clause-leads g c = λ places s h. rw c.in-Memcpy.is (c.act_copy.ensures.leads places s h)

pub returns-in-Memmove-clause-leads : goal.returns-in-Memmove-clause-leads
returns-in-Memmove-clause-leads g c = λ places s h. rw c.in-Memmove.is (c.act_copy-in-Memmove.ensures.leads places s h)

pub returns-in-Memset-clause-leads : goal.returns-in-Memset-clause-leads
returns-in-Memset-clause-leads g c = λ places s h. rw c.in-Memset.is (c.act_set.ensures.leads places s h)
