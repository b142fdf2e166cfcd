-- How many steps the run of a core makes in a heap that is cut by the stack, and what it leaves.
use Rattle.std.specs.Prelude.{◌≡◌, ◌+◌, ◌-◌, ◌++◌, ℕ, List, [], unwrap_or}
use Rattle.hs_base.specs.declared.ends.End.{End}
use Rattle.hs_base.specs.declared.ends.End.TheVariants as end
use Rattle.hs_base.specs.declared.values.Pointer.{Pointer}
use Rattle.hs_base.specs.Freeing.{pointers_to}
use Rattle.hs_base.specs.State.{State}
use Rattle.hs_base.specs.Trace.{Event, Ending, Dangling}
use Rattle.hs_base.specs.declared.ends.Limits.{Limits}
use Rattle.hs_base.specs.Cut.{fits, refused_ending}
use Rattle.hs_base.specs.Runs.{led, after, tested}
use Rattle.core_tree.specs.declared.program.Core.{Core}
use Rattle.object_meaning.specs.objects.Going.{Next}
use Rattle.object_meaning.specs.objects.Meaning.{Run, first_call, step, enough}
use Rattle.object_meaning.specs.counted.Pinning.{Pins}
use Rattle.meaning_laws.specs.counted.Counts.{inside_living, in_pins}
use Rattle.flat_objects.specs.Counting.{Tracks, living_pointers}
use Rattle.flat_machine.specs.Kept.{Kept}
use Rattle.flat_machine.specs.Image.{Agrees}

-- how a run ends at a call for which there is no room
abbrev pub no_room : Event → Ending
no_room e = unwrap_or (refused_ending e) Dangling

-- what a statement leads to: where the stack has no room for its call, to the end of the run in the state before it
abbrev pub cut_next : ℕ → List Event → Next → Next
cut_next stack trace next = tested (fits stack) no_room trace next

-- the meaning in the heap, run until just before the first call that the stack has no room for: its last state is the one before
-- that call, with the step that it took already taken
abbrev pub cut_run : Core → List ℕ → ℕ → Limits → Run
cut_run core input n limits =
    let r = led [] (cut_next limits.stack [] (first_call core input n)) in
    after (λ trace s. cut_next limits.stack trace (step core limits.heap trace s)) r (enough core r.state)

-- the run made so many steps: those that it was allowed, less those that are left in the last state; where the input or the
-- output failed nothing is said
abbrev pub MakesSteps : Core → List ℕ → ℕ → Limits → End → ℕ → Type 0
MakesSteps core input n limits end.InputFault made = Unit {0}
MakesSteps core input n limits end.OutputFault made = Unit {0}
MakesSteps core input n limits e made = made ≡ n - (cut_run core input n limits).state.steps

-- the machine counts the pointers in the slots of objects that are not dead, and some beside them: to each object lead as many as there
-- are in such slots and in pinned registers of frames that wait
pub record CountsPointers (pins : Pins) (places : ℕ → ℕ) (s : State) (kept : Kept) : Type 0 where
  pub beside : List Pointer
  pub tracks : Tracks kept.memory places s.objects (record { pins = beside; queue = s.queue; scopes = s.scopes })
  pub numbers : (birth : ℕ) → pointers_to birth (living_pointers s.objects ++ beside) ≡ inside_living birth s.objects + in_pins pins birth s.waiting

-- behind a bad free or an escape the counts are of no more use
abbrev pub CountsAt : Pins → (ℕ → ℕ) → State → Kept → End → Type 0
CountsAt pins places s kept (end.BadFree bad holder) = Unit {0}
CountsAt pins places s kept (end.Escape func local line) = Unit {0}
CountsAt pins places s kept e = CountsPointers pins places s kept

-- at an end the image of the machine agrees with a state of the meaning, and its counts are the numbers of that state
pub record HasImage (pins : Pins) (s : State) (kept : Kept) (e : End) : Type 0 where
  pub places : ℕ → ℕ
  pub agrees : Agrees places s kept
  pub counts : CountsAt pins places s kept e

-- so it does with the last state of the run; where the input or the output failed nothing is said
abbrev pub LeavesImage : Core → Pins → List ℕ → ℕ → Limits → End → Kept → Type 0
LeavesImage core pins input n limits end.InputFault kept = Unit {0}
LeavesImage core pins input n limits end.OutputFault kept = Unit {0}
LeavesImage core pins input n limits e kept = HasImage pins (cut_run core input n limits).state kept e
