use Rattle.std.proofs.Common.{◌≡◌, ◌≤◌, drop}
use Rattle.object_meaning.specs.objects.Printing.{printed}
use Rattle.object_meaning.specs.objects.PrintingEquations.{behind}
use Rattle.meaning_state.proofs.objects.Objects.printed.Given as goal

abbrev pub invariant-loop-i : goal.invariant-loop-i
invariant-loop-i l = record {
  print : printed l.self l.pieces l.values ≡ behind l.buffer.bytes (printed l.self (drop l.i l.pieces) (drop l.place l.values));
  place : l.place ≤ l.i;
  faults : l.buffer.faults ≡ 0;
}
