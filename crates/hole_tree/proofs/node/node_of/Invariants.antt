use Rattle.hole_tree.proofs.Nodes.{IsCounted}
use Rattle.hole_tree.proofs.node.node_of.Given as goal

abbrev pub invariant-loop-taken : goal.invariant-loop-taken
invariant-loop-taken l = IsCounted l.part l.taken-index l.longest l.end
