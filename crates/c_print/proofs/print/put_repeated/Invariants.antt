use Rattle.std.proofs.Common.{◌≡◌, ◌-◌, ◌≤◌, replicate}
use Rattle.c_print.specs.PutsEquations.{Took}
use Rattle.c_print.proofs.print.put_repeated.Given as goal

-- no failure yet, and all but `left` bytes are taken
abbrev pub invariant-loop-left : goal.invariant-loop-left
invariant-loop-left g l = record {
  within : l.left ≤ l.count;
  none_failed : g.O.Sink.faults l.out ≡ g.O.Sink.faults l.fn.out;
  begun : Took (g.O.Sink.taken l.fn.out) (g.O.Sink.taken l.out) (replicate (l.count - l.left) l.byte);
}

abbrev pub decreases-loop-left : goal.decreases-loop-left
decreases-loop-left g l = l.left
