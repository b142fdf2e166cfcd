-- What a run of a core or of code is known to do, where the input tells its bytes.
use Rattle.std.specs.Prelude.{◌≡◌, ℕ, List, [], Option, Some, Result}
use Rattle.hs_base.specs.declared.ends.End.{End}
use Rattle.hs_base.specs.declared.ends.Limits.{Limits}
use Rattle.hs_base.specs.declared.items.NoMemory.{NoMemory}
use Rattle.object_meaning.specs.compiled.Compiled.{IsCompiled}
use Rattle.object_meaning.specs.compiled.Sites.{AreAscending}
use Rattle.core_tree.specs.Sound.{IsSound}
use Rattle.core_tree.specs.declared.program.Core.{Core}
use Rattle.object_meaning.specs.counted.Pinning.{AreExact, Pins}
use Rattle.flat_code.specs.declared.program.Code.{Code}
use Rattle.flat_codegen.specs.Lasting.{LeavesImage, MakesSteps}
use Rattle.flat_codegen.specs.Running.{RunAnswers}
use Rattle.flat_machine.specs.Lasting as code_lasts
use Rattle.flat_machine.specs.Machined.{Machined, steps_made}
use Rattle.flat_machine.specs.Running as code_runs
use Rattle.flat_machine.specs.Running.{RunCounts}
use Rattle.meaning_run.specs.Meant.{MeanAnswers, MeanCounts}
use Rattle.heapsafe.specs.Saying.{Puts}

-- the limits of a machine
abbrev pub room_of : Machined → Limits
room_of machine = record { heap = machine.kept.memory.heap.len; stack = machine.stack }

-- a run of a core ended so, and left this machine: what it read and wrote, how many steps it made, and its last state
pub record RanCore (core : Core) (pins : Pins) (room : Limits) (steps : ℕ) (end : End) (machine : Machined) (left : List ℕ) (left' taken taken' : Option (List ℕ)) : Type 0 where
  pub told : Puts (RunAnswers core left steps room [] end left') taken taken'
  pub made : MakesSteps core left steps room end (steps_made machine)
  pub image : LeavesImage core pins left steps room end machine.kept

-- so it is for the exact pins of a core, by which its code was made
abbrev pub RunsCore : Core → Limits → ℕ → End → Machined → Option (List ℕ) → Option (List ℕ) → Option (List ℕ) → Option (List ℕ) → Type 0
RunsCore core room steps end machine told left' taken taken' =
    (left : List ℕ) → told ≡ Some left →
    (pins : Pins) × AreExact core pins × RanCore core pins room steps end machine left left' taken taken'

-- and for each core whose code this is
abbrev pub RunsAsCore : Code → ℕ → Machined → End → Machined → Option (List ℕ) → Option (List ℕ) → Option (List ℕ) → Option (List ℕ) → Type 0
RunsAsCore code steps loaded end machine told left' taken taken' =
    (core : Core) (pins : Pins) → IsSound core → AreExact core pins → AreAscending pins → IsCompiled core pins code →
    (left : List ℕ) → told ≡ Some left → RanCore core pins (room_of loaded) steps end machine left left' taken taken'

-- a run of code ended so, and left this machine: what it read and wrote, and its last state
pub record RanCode (code : Code) (room : Limits) (steps : ℕ) (end : End) (machine : Machined) (left : List ℕ) (left' taken taken' : Option (List ℕ)) : Type 0 where
  pub told : Puts (code_runs.RunAnswers code left steps room [] end left') taken taken'
  pub image : code_lasts.LeavesImage code left steps room end machine.kept

abbrev pub RunsCode : Code → Limits → ℕ → End → Machined → Option (List ℕ) → Option (List ℕ) → Option (List ℕ) → Option (List ℕ) → Type 0
RunsCode code room steps end machine told left' taken taken' =
    (left : List ℕ) → told ≡ Some left → RanCode code room steps end machine left left' taken taken'

-- an evaluation ended so, or wanted memory
abbrev pub MeansCore : Core → ℕ → ℕ → Result End NoMemory → Option (List ℕ) → Option (List ℕ) → Option (List ℕ) → Option (List ℕ) → Type 0
MeansCore core steps heap ended told left' taken taken' =
    (left : List ℕ) → told ≡ Some left → Puts (MeanAnswers core left steps heap [] ended left') taken taken'

-- the counts of an input and an output, behind a run that ended so
abbrev pub Counts : {I O : Type 0} → (I → ℕ) → (O → ℕ) → End → I → I → O → O → Type 0
Counts inputs outs end input input' out out' = RunCounts end (inputs input) (inputs input') (outs out) (outs out')

-- the same of a run that answers its end with its machine
abbrev pub CountsRun : {I O : Type 0} → (I → ℕ) → (O → ℕ) → I → I → O → O → End × Machined → Type 0
CountsRun inputs outs input input' out out' ran = Counts inputs outs ran.0 input input' out out'

-- and behind an evaluation
abbrev pub CountsMeant : {I O : Type 0} → (I → ℕ) → (O → ℕ) → Result End NoMemory → I → I → O → O → Type 0
CountsMeant inputs outs ended input input' out out' =
    MeanCounts ended (inputs input) (inputs input') (outs out) (outs out')
