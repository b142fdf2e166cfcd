use Rattle.hole_tree.proofs.tree.+open.Given as goal

abbrev pub decreases-open : goal.decreases-open
decreases-open l = l.height
