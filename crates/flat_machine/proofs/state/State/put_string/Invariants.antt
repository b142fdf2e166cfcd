use Rattle.std.proofs.Common.{◌≡◌, ◌-◌, ◌≤◌, ℕ, List, length, take}
use Rattle.hs_base.specs.declared.values.Pointer.{Pointer}
use Rattle.hs_base.specs.Object.{Object}
use Rattle.flat_machine.specs.Putting.{Took}
use Rattle.flat_machine.specs.Writing.{IsString}
use Rattle.flat_machine.proofs.state.State.put_string.Given as goal

-- no failure yet, and the first `done` bytes are taken
abbrev pub invariant-loop-done : goal.invariant-loop-done
invariant-loop-done g l = record {
  within : l.done ≤ l.len;
  faults : g.O.Sink.faults l.out ≡ g.O.Sink.faults l.fn.out;
  begun : (places : ℕ → ℕ) (objects : List Object) (p : Pointer) (text : List ℕ) → IsString l.self.memory places objects p l.addr text → l.len ≡ length text → Took (g.O.Sink.taken l.fn.out) (g.O.Sink.taken l.out) (take l.done text);
}

abbrev pub decreases-loop-done : goal.decreases-loop-done
decreases-loop-done g l = l.len - l.done
