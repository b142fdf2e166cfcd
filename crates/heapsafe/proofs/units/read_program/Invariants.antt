use Rattle.std.proofs.Common.{◌≡◌, ◌↔◌, ℕ, List, Some, drop, length, map, Bor}
use Rattle.command_words.specs.Commands.{Task}
use Rattle.heapsafe.specs.Answer.{AnswersFiles, Does, first_of}
use Rattle.heapsafe.specs.Program.{Input}
use Rattle.heapsafe.specs.Reads.{IsOfFiles, reading_view}
use Rattle.heapsafe.specs.Shown.{Shown}
use Rattle.heapsafe.specs.Units.{AnswersRest}
use Rattle.heapsafe.proofs.units.read_program.Given as goal

abbrev names : List (Bor (List ℕ)) → List (List ℕ)
names files = map (λ w. w.now) files

abbrev pub invariant-loop-file : goal.invariant-loop-file
invariant-loop-file g l = record {
  told : (told : List ℕ → List ℕ) → g.T.Texts.texts l.fn.texts ≡ Some told → (input : Input) (task : Task) (a : Shown) →
      AnswersFiles (names l.files) told input task a
      ↔ AnswersRest told (drop l.file-index (names l.files)) (λ opened unit b. Does (first_of (names l.files)) opened unit input task b) (reading_view l.reading) a;
  keeps : g.T.Texts.texts l.texts ≡ g.T.Texts.texts l.fn.texts;
  count : g.T.Texts.faults l.texts ≡ g.T.Texts.faults l.fn.texts;
  units : length l.reading.units ≡ l.file-index;
  within : IsOfFiles (reading_view l.reading);
}
