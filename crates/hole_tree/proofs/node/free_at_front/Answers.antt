use Rattle.std.proofs.Common.{ap, arith}
use Rattle.std.proofs.lemmas.List.{take_all}
use Rattle.hole_tree.specs.Runs.{front_run}
use Rattle.hole_tree.proofs.Nodes.{front_stops, front_goes}
use Rattle.hole_tree.proofs.node.free_at_front.Goals as goal

pub returns-then-taken : goal.returns-then-taken
returns-then-taken c = front_stops c.args.part.now c.loop-index.index c.loop-index-test.true c.loop-index.invariant c.if-taken.true

pub loop-index-preserved : goal.loop-index-preserved
loop-index-preserved c = front_goes c.args.part.now c.loop-index.index c.loop-index-test.true c.loop-index.invariant c.if-taken.false

pub returns : goal.returns
returns c =
    let all = ap front_run (take_all c.loop-index.index c.args.part.now c.loop-index-test.false) in
    omega (arith, c.loop-index.auto.index-end, c.loop-index.invariant)
