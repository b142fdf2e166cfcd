-- What numbers count, and when a run with numbers is that of the object meaning.
use Rattle.std.specs.Prelude.{◌≡◌, ℕ, ◌+◌, cond, List}
use Rattle.std.specs.List.{sum_by}
use Rattle.hs_base.specs.Freeing.{pointers_to}
use Rattle.hs_base.specs.Object.{Object, is_dead}
use Rattle.hs_base.specs.State.{Frame}
use Rattle.object_meaning.specs.objects.Meaning as object
use Rattle.object_meaning.specs.counted.Pinning.{Pins, pinned}
use Rattle.object_meaning.specs.counted.CountedState.{CountedState}
use Rattle.object_meaning.specs.counted.CountedMeaning as counted

-- the pointers to an object in the slots of one that is not dead
abbrev pub living : ℕ → Object → ℕ
living birth o = cond (is_dead o.standing) 0 (pointers_to birth o.pointers)

-- those in the slots of all objects that are not dead
abbrev pub inside_living : ℕ → List Object → ℕ
inside_living birth objects = sum_by (living birth) objects

-- those in the pinned registers of some frames
abbrev pub in_pins : Pins → ℕ → List Frame → ℕ
in_pins pins birth frames = sum_by (λ (frame : Frame). pointers_to birth (pinned pins frame)) frames

-- the number of each object is how many pointers to it are in slots of objects that are not dead, and in pinned registers of
-- frames that wait
abbrev pub AreCounts : Pins → CountedState → Type 0
AreCounts pins c =
    (birth : ℕ) → c.numbers birth ≡ inside_living birth c.state.objects + in_pins pins birth c.state.waiting

-- a run of the object meaning and one with numbers: the same trace, end and state, and numbers that count
pub record SameRun (pins : Pins) (of_core : object.Run) (of_counted : counted.Run) : Type 0 where
  pub trace : of_counted.trace ≡ of_core.trace
  pub ended : of_counted.ended ≡ of_core.ended
  pub state : of_counted.state.state ≡ of_core.state
  pub numbers : AreCounts pins of_counted.state
