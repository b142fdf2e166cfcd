-- The state of a run with numbers.
use Rattle.std.specs.Prelude.{ℕ}
use Rattle.hs_base.specs.State.{State}
use Rattle.hs_base.specs.Trace.{Event, Ending}
use Rattle.hs_base.specs.Runs as runs
use Rattle.object_meaning.specs.objects.Going as object

-- the state of the object meaning, and how many pointers to each object count, by its birth
pub record CountedState : Type 0 where
  pub state : State
  pub numbers : ℕ → ℕ

-- what a statement leads to
abbrev pub Next : Type 0
Next = runs.Next CountedState Event Ending

-- a state with these numbers
abbrev pub kept : (ℕ → ℕ) → State → CountedState
kept numbers s = record { state = s; numbers = numbers }

-- what a statement leads to in the object meaning, with numbers: those before it, those behind it where the run goes on, which
-- the states before and behind give, and those where the run ends
abbrev pub numbered : (ℕ → ℕ) → (State → State → ℕ → ℕ) → (ℕ → ℕ) → object.Next → Next
numbered first others last (runs.Goes before events after) = runs.Goes (kept first before) events (kept (others before after) after)
numbered first others last (runs.Stops before events after ending) =
    runs.Stops (kept first before) events (kept last after) ending

-- the numbers stay
abbrev pub same_numbers : (ℕ → ℕ) → object.Next → Next
same_numbers numbers next = numbered numbers (λ before after. numbers) numbers next

-- the run goes on with others
abbrev pub other_numbers : (State → State → ℕ → ℕ) → (ℕ → ℕ) → object.Next → Next
other_numbers others numbers next = numbered numbers others numbers next
