use Rattle.c_pre.proofs.hidden.+united.Given as goal

abbrev pub decreases-united : goal.decreases-united
decreases-united l = l.half
