use Rattle.heapsafe.proofs.program.freed_at.Goals as goal

pub returns-in-BadFree : goal.returns-in-BadFree
returns-in-BadFree c = λ places objects keeps. rw c.in-BadFree.is (c.freed_by.ensures places objects keeps)
