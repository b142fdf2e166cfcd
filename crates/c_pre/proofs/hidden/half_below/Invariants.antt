use Rattle.c_pre.proofs.hidden.half_below.Given as goal

abbrev pub decreases-loop-half : goal.decreases-loop-half
decreases-loop-half l = l.half
