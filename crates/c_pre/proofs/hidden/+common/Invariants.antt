use Rattle.c_pre.proofs.hidden.+common.Given as goal

abbrev pub decreases-common : goal.decreases-common
decreases-common l = l.half
