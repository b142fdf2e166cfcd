use Rattle.std.proofs.Common.{◌≡◌, ℕ, pos, ◌*◌, ◌≤◌, List}
use Rattle.hs_base.specs.declared.values.Value.{Value}
use Rattle.hs_base.specs.Object.{Object}
use Rattle.flat_machine.specs.Writing.{KeepsWords}
use Rattle.flat_machine.proofs.Prints.{Progress}
use Rattle.flat_machine.proofs.state.State.put_pieces.Given as goal

abbrev pub invariant-loop-i : goal.invariant-loop-i
invariant-loop-i g l = record {
  faults : g.O.Sink.faults l.out ≡ g.O.Sink.faults l.fn.out;
  place : l.place ≤ l.i;
  count : (n : ℕ) × (l.written ≡ pos n) × (n ≤ l.i * 18446744073709551616);
  progress : (places : ℕ → ℕ) (objects : List Object) (values : List Value) → KeepsWords l.self.memory places objects values l.self.handed → Progress objects l.pieces values l.i l.place l.written (g.O.Sink.taken l.fn.out) (g.O.Sink.taken l.out);
}
