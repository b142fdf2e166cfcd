use Rattle.std.proofs.Common.{◌≡◌, ◌-◌, ◌≤◌, ◌++◌, ℕ, List, Some, length, take}
use Rattle.hs_base.proofs.output.put_all.Given as goal

-- no failure yet, and the first `done` bytes are taken
abbrev pub invariant-loop-done : goal.invariant-loop-done
invariant-loop-done g l = record {
  within : l.done ≤ length l.bytes;
  none_failed : g.O.Sink.faults l.out ≡ g.O.Sink.faults l.fn.out;
  begun : (taken : List ℕ) → g.O.Sink.taken l.fn.out ≡ Some taken →
      g.O.Sink.taken l.out ≡ Some (taken ++ take l.done l.bytes);
}

abbrev pub decreases-loop-done : goal.decreases-loop-done
decreases-loop-done g l = length l.bytes - l.done
