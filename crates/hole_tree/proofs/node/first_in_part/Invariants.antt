use Rattle.hole_tree.proofs.Scanning.{IsScanned}
use Rattle.hole_tree.proofs.node.first_in_part.Given as goal

abbrev pub invariant-loop-index : goal.invariant-loop-index
invariant-loop-index l = IsScanned l.part l.n l.index l.free
