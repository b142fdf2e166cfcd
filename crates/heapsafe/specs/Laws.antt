-- What holds of the answers of two commands.
use Rattle.std.specs.Prelude.{◌≡◌, ◌≤◌, ℕ, List, length}
use Rattle.c_pre.specs.declared.answer.Opened.{Opened}
use Rattle.core_tree.specs.declared.program.Core.{Core}
use Rattle.core_tree.specs.Sound.{IsSound}
use Rattle.heapsafe.specs.declared.executing.Asked.{Asked}
use Rattle.heapsafe.specs.declared.program.Way.TheVariants.{Run}
use Rattle.heapsafe.specs.Execution.{AnswersExecution, IsCompiledTo, most_bytes}
use Rattle.heapsafe.specs.Program.{AnswersWay, steady}
use Rattle.heapsafe.specs.Shown.{Shown}

-- two answers that read and write the same bytes and have the same status
pub record AreAlike (one other : Shown) : Type 0 where
  pub read : one.read ≡ other.read
  pub out : one.out ≡ other.out
  pub status : one.status ≡ other.status

-- the execution of a core's code file is like the run of the core
abbrev pub ExecutionsAreRuns : Type 0
ExecutionsAreRuns =
    (core : Core) (bytes : List ℕ) → IsSound core → IsCompiledTo core bytes → length bytes ≤ most_bytes →
    (name file : List ℕ) (opened : List Opened) (input : List ℕ) (asked : Asked) (executed run : Shown) →
    AnswersExecution name bytes (steady input) asked executed → AnswersWay file opened core (steady input) (Run asked.limits asked.steps asked.leaks asked.explain) run → AreAlike executed run
