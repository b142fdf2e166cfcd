use Rattle.std.proofs.Common.{◌∙◌, arith}
use Rattle.hole_tree.proofs.Scanning.{scan_taken, scan_free, scan_found, scan_ends}
use Rattle.hole_tree.proofs.node.first_in_part.Goals as goal
use Rattle.hole_tree.proofs.node.first_in_part.Goals.{then-taken, else-taken}

pub overflow_sub-result : goal.overflow_sub-result
overflow_sub-result c =
    elim c.if-taken.branch [ then-taken w ↦ absurd (omega arith) | else-taken w ↦ omega arith ]

pub returns-then-free-n : goal.returns-then-free-n
returns-then-free-n c =
    elim c.if-taken.branch [
      | then-taken w ↦ absurd (omega arith)
      | else-taken w ↦ scan_found c.args.part.now c.args.n c.loop-index.index c.loop-index.free c.loop-index-test.true c.loop-index.invariant w.if-taken.false (omega arith)
    ]

pub loop-index-preserved : goal.loop-index-preserved
loop-index-preserved c =
    elim c.if-taken.branch [
      | then-taken w ↦ rw w.free-is (scan_taken c.args.part.now c.args.n c.loop-index.index c.loop-index.free c.loop-index-test.true c.loop-index.invariant w.if-taken.true)
      | else-taken w ↦ rw w.free-is (scan_free c.args.part.now c.args.n c.loop-index.index c.loop-index.free c.loop-index-test.true c.loop-index.invariant w.if-taken.false (λ full. c.if-free-n.false (w.free-is ∙ full)))
    ]

pub returns : goal.returns
returns c = scan_ends c.args.part.now c.args.n c.loop-index.index c.loop-index.free (omega arith) c.loop-index.invariant
