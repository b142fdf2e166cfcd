use Rattle.std.proofs.Common.{◌≡◌, ◌++◌, [], ℕ, List, Some}
use Rattle.hs_base.specs.declared.ends.Limits.{Limits}
use Rattle.flat_machine.specs.Noting.{left_behind}
use Rattle.flat_machine.specs.Well.{IsWell}
use Rattle.flat_machine.specs.Running.{Reached}
use Rattle.flat_machine.specs.Advancing.{enough_for}
use Rattle.flat_machine.proofs.running.end_of_run.Given as goal

abbrev pub invariant-instructions : goal.invariant-instructions
invariant-instructions g l = record {
  input : g.I.Source.faults l.console.input.now ≡ g.I.Source.faults l.fn.console.input.now;
  out : g.O.Sink.faults l.console.out.now ≡ g.O.Sink.faults l.fn.console.out.now;
  well : IsWell l.code l.state;
  room : l.state.calls.room ≡ l.fn.state.calls.room;
  told : (left : List ℕ) (n : ℕ) (limits : Limits) → l.fn.state.calls.room ≡ limits.stack → Reached l.code left n limits [] l.fn.state (left_behind g.K.Lent.left (l.fn.console.done.notes ++ l.fn.console.page.notes)) (Some (l.fn.console.done.notes ++ l.fn.console.page.notes)) → Reached l.code left n limits [] l.state (left_behind g.K.Lent.left (l.console.done.notes ++ l.console.page.notes)) (Some (l.console.done.notes ++ l.console.page.notes));
}

abbrev pub decreases-instructions : goal.decreases-instructions
decreases-instructions g l = enough_for l.code l.state
