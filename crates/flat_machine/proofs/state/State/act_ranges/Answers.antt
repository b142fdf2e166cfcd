use Rattle.flat_machine.proofs.state.State.act_ranges.Goals as goal

pub returns-in-Copy-clause-alone : goal.returns-in-Copy-clause-alone
returns-in-Copy-clause-alone g c = λ code fits instr places s h. rw c.in-Copy.is (c.copy_range.ensures.alone code fits instr places s h)

pub returns-in-Clear-clause-alone : goal.returns-in-Clear-clause-alone
returns-in-Clear-clause-alone g c = λ code fits instr places s h. rw c.in-Clear.is (c.clear_range.ensures.alone code fits instr places s h)
