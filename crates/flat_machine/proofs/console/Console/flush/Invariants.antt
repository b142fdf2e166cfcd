use Rattle.std.proofs.Common.{◌≡◌, ◌++◌, length}
use Rattle.flat_machine.specs.Noting.{IsAtByte, bytes_put}
use Rattle.flat_machine.proofs.console.Console.flush.Given as goal

abbrev pub invariant-chunks : goal.invariant-chunks
invariant-chunks g l = record {
  notes : l.self.done.notes ++ l.self.page.notes ≡ l.fn.self.done.notes ++ l.fn.self.page.notes;
  at_byte : IsAtByte l.self.page;
  out : g.O.Sink.faults l.self.out.now ≡ g.O.Sink.faults l.fn.self.out.now;
  input : g.I.Source.faults l.self.input.now ≡ g.I.Source.faults l.fn.self.input.now;
}

abbrev pub decreases-chunks : goal.decreases-chunks
decreases-chunks g l = length (bytes_put l.self.page.notes)
