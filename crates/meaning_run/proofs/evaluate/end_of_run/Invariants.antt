use Rattle.std.proofs.Common.{◌≡◌, ℕ, List, Some}
use Rattle.object_meaning.specs.objects.Meaning.{enough}
use Rattle.meaning_laws.specs.objects.Good.{Good}
use Rattle.meaning_run.specs.Meant.{Begins}
use Rattle.meaning_run.proofs.Reached.{Reached}
use Rattle.meaning_run.proofs.evaluate.end_of_run.Given as goal

abbrev pub invariant-statements : goal.invariant-statements
invariant-statements g l = record {
  input : g.I.Source.faults l.input ≡ g.I.Source.faults l.fn.input;
  out : g.O.Sink.faults l.out ≡ g.O.Sink.faults l.fn.out;
  good : Good l.core l.machine;
  told : (left taken : List ℕ) (n : ℕ) → g.I.Source.left l.fn.input ≡ Some left → g.O.Sink.taken l.fn.out ≡ Some taken → Begins l.core left n l.fn.machine → Reached l.core left n l.fn.held.heap taken l.machine l.held (g.I.Source.left l.input) (g.O.Sink.taken l.out);
}

abbrev pub decreases-statements : goal.decreases-statements
decreases-statements g l = enough l.core l.machine
