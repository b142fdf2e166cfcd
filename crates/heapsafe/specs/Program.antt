-- What a program reads, writes and answers, by the meaning of its core.
use Rattle.std.specs.Prelude.{◌≡◌, ◌⊎◌, ◌++◌, ◌≤◌, ℕ, Bool, true, false, cond, nat_lt, List, [], ◌∷◌, Option, Some, None, MatchBool}
use Rattle.hs_base.specs.declared.ends.End.{End}
use Rattle.hs_base.specs.declared.ends.Leak.{Leak}
use Rattle.hs_base.specs.declared.ends.Limits.{Limits}
use Rattle.hs_base.specs.declared.ends.Reason.{Reason}
use Rattle.hs_base.specs.declared.ends.Reason.TheVariants.{Held, Again, NotStart}
use Rattle.hs_base.specs.declared.ends.End.TheVariants as end
use Rattle.hs_base.specs.Object.{Object}
use Rattle.hs_base.specs.Trace.{Event, In, bytes_in, bytes_out}
use Rattle.hs_base.specs.Cut.{cut, ending_of}
use Rattle.bad_free_report.specs.Notice.{Notice}
use Rattle.bad_free_report.specs.Notice as notice
use Rattle.bad_free_report.specs.declared.explanation.Freed.{Freed}
use Rattle.bad_free_report.specs.declared.explanation.Known.{Known}
use Rattle.core_tree.specs.declared.program.Core.{Core}
use Rattle.object_meaning.specs.objects.Meaning.{meaning}
use Rattle.meaning_run.specs.Meant.{end_in}
use Rattle.flat_codegen.specs.Lasting.{cut_run}
use Rattle.flat_objects.specs.Waiting.{waiting_of}
use Rattle.flat_objects.specs.declared.waiting.Waiting.{Waiting}
use Rattle.heapsafe.specs.declared.program.Way.{Way}
use Rattle.heapsafe.specs.declared.program.Way.TheVariants.{Run, Mean}
use Rattle.heapsafe.specs.Leaks.{AreLeaks}
use Rattle.heapsafe.specs.Places.{told_ending, told_leaks}
use Rattle.c_pre.specs.declared.answer.Opened.{Opened}
use Rattle.heapsafe.specs.Shown.{Shown, no_memory}

-- the bytes of input that are left, and whether the input fails
pub record Input : Type 0 where
  pub bytes : List ℕ
  pub fails : Bool

-- an input whose count of faults was the first number and is the second
abbrev pub input_of : List ℕ → ℕ → ℕ → Input
input_of bytes before after = record { bytes = bytes; fails = nat_lt before after }

-- one that does not fail
abbrev pub steady : List ℕ → Input
steady bytes = record { bytes = bytes; fails = false }

-- the status of a program's end
abbrev pub status_of : End → ℕ
status_of (end.Exit code) = code
status_of (end.Trap kind line) = 128
status_of (end.BadFree why holder) = 126
status_of (end.Escape func local line) = 127
status_of end.Spent = 131
status_of (end.OutOfStack line) = 130
status_of end.InputFault = 132
status_of end.OutputFault = 133

-- what a program does: its events, its end, and, where its leaks are asked for, the objects of its last state
pub record Done : Type 0 where
  pub events : List Event
  pub ends : Option End
  pub left : Option (List Object)

-- what the meaning does in a heap of so many bytes, in which an allocation answers null exactly where first fit finds no place
abbrev pub meant : Core → List ℕ → ℕ → ℕ → Done
meant core input steps heap =
    let m = meaning core input steps heap in record { events = m.trace; ends = end_in m.ended; left = None }

-- the same, up to the first call for which the stack has no room
abbrev pub run_within : Limits → Core → List ℕ → ℕ → Bool → Done
run_within limits core input steps leaks =
    let m = meaning core input steps limits.heap in
    let kept = cut limits.stack m.trace in
    record {
      events = kept.kept;
      ends = end_in (ending_of kept.refused m.ended);
      left = cond leaks (Some (cut_run core input steps limits).state.objects) None;
    }

-- the leaks that are told of at an end: those of the objects that a program leaves by an exit, where they are asked for
abbrev pub AreTold : Option (List Object) → End → List Leak → Type 0
AreTold (Some objects) (end.Exit code) leaks = AreLeaks objects 0 leaks
AreTold left e leaks = leaks ≡ []

-- none are told of, whatever a program leaves
abbrev pub TellsNone : Bool → End → Type 0
TellsNone true (end.Exit code) = ⊥
TellsNone leaks e = Unit {0}

-- what was freed at a bad free, among the objects of the last state: where one is held, what waits and was freed at the line of that
-- free; where one is freed again, what waits
abbrev pub freed_of : Waiting → Freed
freed_of w = record { blocks = w.blocks; bytes = w.bytes; line = w.line }

abbrev pub freed_by : Reason → ℕ → List Object → Option Freed
freed_by Held line objects = Some (freed_of (waiting_of (Some line) objects))
freed_by Again line objects = Some (freed_of (waiting_of None objects))
freed_by NotStart line objects = None

abbrev pub freed_at : List Object → End → Option Freed
freed_at objects (end.BadFree why holder) = freed_by why.reason why.line objects
freed_at objects e = None

-- what is known of a run that left these objects, by which an end is explained, where that is asked for; the evaluator has no limit of
-- stack, no run of it ends by one, and what it leaves is not known
abbrev pub explains_run : Bool → ℕ → Limits → List Object → End → Option Known
explains_run explain steps limits objects e =
    cond explain (Some (record { limits = record { steps = steps; stack = limits.stack }; freed = freed_at objects e })) None

abbrev pub explains_mean : Bool → ℕ → Option Known
explains_mean explain steps =
    cond explain (Some (record { limits = record { steps = steps; stack = 0 }; freed = None })) None

-- what is said of how a program ended
abbrev pub told_notice : List ℕ → List Opened → Core → Option Known → End → List Leak → Notice
told_notice file opened core asked e leaks =
    notice.Ended (told_ending core file opened asked e) (told_leaks opened leaks) (status_of e)

-- the bytes that events read and write, with what is said of an end and of leaks, and its status
abbrev pub ended : List ℕ → List Opened → Core → Option Known → List Event → End → List Leak → Shown
ended file opened core asked events e leaks =
    record { read = bytes_in events; out = bytes_out events; err = told_notice file opened core asked e leaks; status = status_of e }

-- the same for want of memory
abbrev pub unfinished : List Event → Shown
unfinished events =
    record { read = bytes_in events; out = bytes_out events; err = no_memory.err; status = 134 }

-- a program made all of its events and ended; what is known of its run at each end is given
pub record Ended (file : List ℕ) (opened : List Opened) (core : Core) (knows : End → Option Known) (done : Done) (a : Shown) : Type 0 where
  pub how : End
  pub leaks : List Leak
  pub ends : done.ends ≡ Some how
  pub told : AreTold done.left how leaks
  pub is : a ≡ ended file opened core (knows how) done.events how leaks

-- a program made its events before one that reads, and stopped there since the input failed
pub record Starved (file : List ℕ) (opened : List Opened) (core : Core) (knows : End → Option Known) (done : Done) (a : Shown) : Type 0 where
  pub before : List Event
  pub byte : Option ℕ
  pub rest : List Event
  pub stops : done.events ≡ before ++ In byte ∷ rest
  pub is : a ≡ ended file opened core (knows end.InputFault) before end.InputFault []

-- which of the two it is goes by whether the input fails
abbrev pub AnswersProgram : List ℕ → List Opened → Core → (End → Option Known) → Bool → Done → Shown → Type 0
AnswersProgram file opened core knows fails done a =
    MatchBool fails (Starved file opened core knows done a) (Ended file opened core knows done a)

-- all of what a program does, or want of memory after a first part
abbrev pub AnswersMeant : List ℕ → List Opened → Core → (End → Option Known) → Bool → Done → Shown → Type 0
AnswersMeant file opened core knows fails done a =
    AnswersProgram file opened core knows fails done a ⊎ ((before : List Event) × (rest : List Event) × (done.events ≡ before ++ rest) × (a ≡ unfinished before))

-- `run` does what the meaning does while the stack has room; `mean` does all of it, or wants memory after a first part
abbrev pub AnswersWay : List ℕ → List Opened → Core → Input → Way → Shown → Type 0
AnswersWay file opened core input (Run limits steps leaks explain) a =
    let objects = (cut_run core input.bytes steps limits).state.objects in
    AnswersProgram file opened core (explains_run explain steps limits objects) input.fails (run_within limits core input.bytes steps leaks) a
AnswersWay file opened core input (Mean heap steps explain) a =
    AnswersMeant file opened core (λ e. explains_mean explain steps) input.fails (meant core input.bytes steps heap) a

-- a program is run on a machine
abbrev pub OnMachine : Way → Type 0
OnMachine (Run limits steps leaks explain) = Unit {0}
OnMachine (Mean heap steps explain) = ⊥

-- heap, stack and steps are within the bounds that the machine and the evaluator take
abbrev pub IsBounded : Way → Type 0
IsBounded (Run limits steps leaks explain) = (limits.heap ≤ 268435456) × (limits.stack ≤ 67108864) × (steps ≤ 1000000000)
IsBounded (Mean heap steps explain) = steps ≤ 1000000000
