use Rattle.hole_tree.proofs.tree.+first_hole.Given as goal

abbrev pub decreases-first_hole : goal.decreases-first_hole
decreases-first_hole l = l.height
