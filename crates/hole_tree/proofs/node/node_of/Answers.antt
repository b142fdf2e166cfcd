use Rattle.std.proofs.Common.{take, arith}
use Rattle.std.proofs.lemmas.List.{length-take}
use Rattle.hole_tree.proofs.Laws.{end_le}
use Rattle.hole_tree.proofs.Nodes.{counted_more}
use Rattle.hole_tree.proofs.node.node_of.Goals as goal
use Rattle.hole_tree.proofs.node.node_of.Goals.{then-taken, else-taken}

pub overflow_add-end : goal.overflow_add-end
overflow_add-end c =
    let before = take c.loop-taken.taken-index c.args.part.now in
    omega (arith, c.loop-taken.invariant.end_is, end_le before, length-take c.loop-taken.taken-index c.args.part.now)

pub loop-taken-preserved : goal.loop-taken-preserved
loop-taken-preserved c =
    counted_more c.args.part.now c.loop-taken.taken-index c.loop-taken.longest c.loop-taken.end c.max-longest.result c.if-taken.end c.loop-taken-test.true c.loop-taken.invariant
    (λ here. elim c.if-taken.branch [ then-taken w ↦ w.end-is | else-taken w ↦ absurd (cc) ])
    (λ here. elim c.if-taken.branch [ then-taken w ↦ absurd (cc) | else-taken w ↦ w.end-is ])
    (omega arith)
