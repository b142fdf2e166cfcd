-- How a command is served: what is read and written for its answers, and what its statuses mean.
use Rattle.std.specs.Prelude.{◌≡◌, ◌⊎◌, ◌<◌, ⊤, ℕ, Bool, List, Option, Some, None}
use Rattle.hs_base.specs.declared.ends.Limits.{Limits}
use Rattle.hs_base.specs.declared.outside.Texts as reading
use Rattle.c_decls.specs.Refusals.{Checked}
use Rattle.c_pre.specs.declared.answer.Opened.{Opened}
use Rattle.c_tree.specs.Tree.{Trees}
use Rattle.core_tree.specs.declared.program.Core.{Core}
use Rattle.command_words.specs.Commands.{Command, Task}
use Rattle.heapsafe.specs.declared.program.Way.{Way}
use Rattle.heapsafe.specs.declared.program.Way.TheVariants as way
use Rattle.heapsafe.specs.Answer.{AnswersCommand, AnswersTypes, AsksNoFile, AsksNoMeaning, AsksNone, AsksOne, Does, HasOne, MeansNone, RunsNone, files_asked}
use Rattle.heapsafe.specs.Execution.{AnswersCompiled}
use Rattle.heapsafe.specs.Program.{AnswersWay, Input, OnMachine}
use Rattle.heapsafe.specs.Saying.{Broken, Exactly, Faults, HasCause, Refuses, SaysUnread, StreamFails, TellsInput, TellsOutput, Wants, unread_files}
use Rattle.heapsafe.specs.Shown.{Shown}
use Rattle.heapsafe.specs.Sight.{KeepsBoth, KeepsInput, Sight}

-- a command that reads no text is served by these answers; it has one for each input where `One` holds, evaluates no program
-- where `MeansNone` does, and runs none where `RunsNone` does; the form in which things are said stays
pub record Serves {I O E : Type 0} (One MeansNone RunsNone : Type 0) (Answers : Input → Shown → Type 0) (before after : Sight I O E) (result : ℕ) : Type 0 where
  pub exact : Exactly Answers before after result
  pub faults : (t : ℕ) → Faults t t before after result
  pub input_fault : TellsInput before after result
  pub output_fault : TellsOutput before after result
  pub stays : RunsNone → KeepsInput before after
  pub broken : Broken One Answers None before after
  pub memory : Wants MeansNone RunsNone before after result
  pub cause : HasCause (StreamFails before after) RunsNone before after result
  pub refused : Refuses RunsNone before after result
  pub form : after.form ≡ before.form

-- one that runs or evaluates a program
abbrev pub Runs : {I O E : Type 0} → Type 0 → (Input → Shown → Type 0) → Sight I O E → Sight I O E → ℕ → Type 0
Runs MeansNone Answers before after result = Serves ⊤ MeansNone ⊥ Answers before after result

-- a core is run in a way
abbrev pub RunsWay : {I O E : Type 0} → List ℕ → List Opened → Core → Way → Sight I O E → Sight I O E → ℕ → Type 0
RunsWay file opened core way before after result =
    Runs (OnMachine way) (λ input a. AnswersWay file opened core input way a) before after result

-- on a machine
abbrev pub RunsOn : {I O E : Type 0} → List ℕ → List Opened → Core → Limits → ℕ → Bool → Bool → Sight I O E → Sight I O E → ℕ → Type 0
RunsOn file opened core limits steps leaks explain before after result =
    RunsWay file opened core (way.Run limits steps leaks explain) before after result

-- so is what types gave
abbrev pub RunsTyped : {I O E : Type 0} → List ℕ → List Opened → Checked Core → Way → Sight I O E → Sight I O E → ℕ → Type 0
RunsTyped file opened typed way before after result =
    Runs (OnMachine way) (λ input a. AnswersTypes file opened typed input way a) before after result

-- a task is done with this tree
abbrev pub DoesTask : {I O E : Type 0} → List ℕ → List Opened → Trees → Task → Sight I O E → Sight I O E → ℕ → Type 0
DoesTask file opened unit task before after result =
    Serves (HasOne task) (MeansNone task) (RunsNone task) (λ input a. Does file opened unit input task a) before after result

-- one that writes this answer
abbrev pub Writes : {I O E : Type 0} → Shown → Sight I O E → Sight I O E → ℕ → Type 0
Writes shown before after result = Serves ⊤ ⊤ ⊤ (λ _ a. a ≡ shown) before after result

-- one that writes one of several answers
abbrev pub WritesSome : {I O E : Type 0} → (Shown → Type 0) → Sight I O E → Sight I O E → ℕ → Type 0
WritesSome Is before after result = Serves ⊥ ⊤ ⊤ (λ _ a. Is a) before after result

-- one that writes the code file of a core
abbrev pub Compiles : {I O E : Type 0} → List Opened → Checked Core → Sight I O E → Sight I O E → ℕ → Type 0
Compiles opened typed before after result = WritesSome (λ a. AnswersCompiled opened typed a) before after result

-- what texts tell, where they tell it, is read and answered exactly so, where none failed
abbrev pub Exact : {T I O E : Type 0} → reading.Ghosts T → ((List ℕ → List ℕ) → Input → Shown → Type 0) → T → T → Sight I O E → Sight I O E → ℕ → Type 0
Exact of Answers texts texts' before after result =
    (told : List ℕ → List ℕ) → of.texts texts ≡ Some told → of.faults texts' ≡ of.faults texts →
    Exactly (Answers told) before after result

-- and broken off so, where a write failed
abbrev pub BrokenOff : {T I O E : Type 0} → reading.Ghosts T → Option Command → ((List ℕ → List ℕ) → Input → Shown → Type 0) → T → T → Sight I O E → Sight I O E → Type 0
BrokenOff of asked Answers texts texts' before after =
    (told : List ℕ → List ℕ) → of.texts texts ≡ Some told →
    Broken (AsksOne asked) (Answers told) (unread_files asked (of.faults texts) (of.faults texts')) before after

-- a status for a failure of the outside comes where a text or a stream failed, or is a program's own
abbrev pub Caused : {T I O E : Type 0} → reading.Ghosts T → Option Command → T → T → Sight I O E → Sight I O E → ℕ → Type 0
Caused of asked texts texts' before after result =
    HasCause ((of.faults texts < of.faults texts') ⊎ StreamFails before after) (AsksNone asked) before after result

-- a command is served, where these are the texts, and those that they became
pub record Obeys {T I O E : Type 0} (of : reading.Ghosts T) (asked : Option Command) (texts texts' : T) (before after : Sight I O E) (result : ℕ) : Type 0 where
  pub exact : Exact of (AnswersCommand asked) texts texts' before after result
  pub faults : Faults (of.faults texts) (of.faults texts') before after result
  pub input_fault : TellsInput before after result
  pub output_fault : TellsOutput before after result
  pub stays : AsksNone asked → KeepsInput before after
  pub text_fault : of.faults texts < of.faults texts' → SaysUnread (files_asked asked) before after result
  pub broken : BrokenOff of asked (AnswersCommand asked) texts texts' before after
  pub memory : Wants (AsksNoMeaning asked) (AsksNone asked) before after result
  pub cause : Caused of asked texts texts' before after result
  pub refused : Refuses (AsksNone asked) before after result
  pub form : after.form ≡ before.form

-- so are words; those that are not taken leave all but the error stream, and those that name no file leave the texts
pub record Answered {T I O E : Type 0} (of : reading.Ghosts T) (asked : Option Command) (texts texts' : T) (before after : Sight I O E) (result : ℕ) : Type 0 where
  pub obeys : Obeys of asked texts texts' before after result
  pub usage : asked ≡ None → (texts' ≡ texts) × KeepsBoth before after
  pub no_file : AsksNoFile asked → (texts' ≡ texts) × KeepsInput before after
