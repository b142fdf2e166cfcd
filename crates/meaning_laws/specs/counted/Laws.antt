-- Laws of the counted meaning: it has the runs of the object meaning, and its numbers count.
use Rattle.std.specs.Prelude.{◌≡◌, ℕ, Bool, List, [], Some}
use Rattle.hs_base.specs.Trace.{Event, Ending}
use Rattle.hs_base.specs.Runs as runs
use Rattle.core_tree.specs.declared.program.Core.{Core}
use Rattle.core_tree.specs.Sound.{IsSound}
use Rattle.object_meaning.specs.objects.Meaning as object
use Rattle.object_meaning.specs.counted.Pinning.{Pins, AreExact}
use Rattle.object_meaning.specs.counted.CountedMeaning as counted
use Rattle.meaning_laws.specs.counted.Counts.{SameRun}

-- the whole run
abbrev pub CountsAreHolders : Type 0
CountsAreHolders =
    (core : Core) (pins : Pins) → IsSound core → AreExact core pins → (input : List ℕ) (n heap : ℕ) → SameRun pins (object.meaning core input n heap) (counted.meaning core pins input n heap)

-- the run after each number of statements
abbrev pub EachStateIsCounted : Type 0
EachStateIsCounted =
    (core : Core) (pins : Pins) → IsSound core → AreExact core pins → (input : List ℕ) (n heap k : ℕ) → SameRun pins (runs.after (object.step core heap) (object.begun core input n) k) (runs.after (counted.step core pins heap) (counted.begun core input n) k)

-- a step that stops where its first event is refused
abbrev pub testing : {S : Type 0} → (List Event → Event → Bool) → (Event → Ending) → (List Event → S → runs.Next S Event Ending) → List Event → S → runs.Next S Event Ending
testing fits refused step trace s = runs.tested fits refused trace (step trace s)

-- the same for runs that stop at the first event that a test refuses, as a call that the stack has no room for
abbrev pub TestedRunsAreCounted : Type 0
TestedRunsAreCounted =
    (core : Core) (pins : Pins) → IsSound core → AreExact core pins → (fits : List Event → Event → Bool) (refused : Event → Ending) (input : List ℕ) (n heap k : ℕ) → SameRun pins (runs.after (testing fits refused (object.step core heap)) (runs.led [] (runs.tested fits refused [] (object.first_call core input n))) k) (runs.after (testing fits refused (counted.step core pins heap)) (runs.led [] (runs.tested fits refused [] (counted.first_call core input n))) k)

-- a run of the core that stops so has ended, from whichever state it goes on
abbrev pub TestedRunsEnd : Type 0
TestedRunsEnd =
    (core : Core) → IsSound core → (fits : List Event → Event → Bool) (refused : Event → Ending) (heap : ℕ) (r : object.Run) → (ending : Ending) × ((runs.after (testing fits refused (object.step core heap)) r (object.enough core r.state)).ended ≡ Some ending)
