use Rattle.std.proofs.Common.{◌≡◌, take}
use Rattle.hole_tree.specs.Runs.{front_run}
use Rattle.hole_tree.proofs.node.free_at_front.Given as goal

abbrev pub invariant-loop-index : goal.invariant-loop-index
invariant-loop-index l = front_run (take l.index l.part) ≡ l.index
