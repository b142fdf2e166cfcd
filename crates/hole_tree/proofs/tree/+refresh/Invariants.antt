use Rattle.hole_tree.proofs.tree.+refresh.Given as goal

abbrev pub decreases-refresh : goal.decreases-refresh
decreases-refresh l = l.height
