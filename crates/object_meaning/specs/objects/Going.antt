-- How a statement goes on, or ends the run.
use Rattle.std.specs.Prelude.{ℕ, zero, suc, ◌+◌, List, [], slice_set, Option, Some, None, Result, Ok, Err}
use Rattle.hs_base.specs.declared.values.Value.{Value}
use Rattle.hs_base.specs.Access.{Refusal, Trapped, ReadsDead}
use Rattle.hs_base.specs.Object.{Object}
use Rattle.hs_base.specs.State.{Frame, State}
use Rattle.hs_base.specs.Trace.{Event, Ending, Trap, Spent, Dangling}
use Rattle.hs_base.specs.Runs as runs

-- what a statement leads to
abbrev pub Next : Type 0
Next = runs.Next State Event Ending

-- a statement that goes on with these events; a cut at the first of them keeps the state before
abbrev pub goes : State → List Event → State → Next
goes before events after = runs.Goes before events after

-- a statement that ends the run, after some events or without any
abbrev pub stops_after : State → List Event → State → Ending → Next
stops_after before events after ending = runs.Stops before events after ending

-- one that ends it without events
abbrev pub stops : State → Ending → Next
stops s ending = runs.Stops s [] s ending

-- the running frame comes to a point
abbrev pub at_point : State → ℕ → State
at_point s l = record s { running = record s.running { point = l } }

-- the running frame comes to its next point
abbrev pub onward : State → State
onward s = at_point s (s.running.point + 1)

-- a register that may not be there takes a value
abbrev pub with_register : Option ℕ → Value → Frame → Frame
with_register None v frame = frame
with_register (Some r) v frame = record frame { regs = slice_set frame.regs r v }

-- a register of the running frame takes a value
abbrev pub put : State → Option ℕ → Value → State
put s r v = record s { running = with_register r v s.running }

-- a register takes a value, and the run goes on
abbrev pub write : State → Option ℕ → Value → State
write s r v = onward (put s r v)

-- other objects in place of those of a state
abbrev pub with_objects : State → List Object → State
with_objects s objects = record s { objects = objects }

-- one step is taken, or none is left
abbrev pub with_step : ℕ → State → (State → Next) → Next
with_step zero s next = stops s Spent
with_step (suc n) s next = next (record s { steps = n })

-- how the run ends where an operation is refused
abbrev pub ended_by : ℕ → Refusal → Ending
ended_by line (Trapped kind) = Trap kind line
ended_by line ReadsDead = Dangling

-- a statement goes on where an operation is not refused
abbrev pub if_done : {A : Type 0} → ℕ → State → Result A Refusal → (A → Next) → Next
if_done line s (Ok a) next = next a
if_done line s (Err e) next = stops s (ended_by line e)

-- a register takes the answer of an operation that is not refused
abbrev pub answers : ℕ → State → Option ℕ → Result Value Refusal → Next
answers line s r (Ok v) = goes s [] (write s r v)
answers line s r (Err e) = stops s (ended_by line e)

-- the objects become those of an operation that is not refused
abbrev pub changes : ℕ → State → Result (List Object) Refusal → Next
changes line s (Ok objects) = goes s [] (onward (with_objects s objects))
changes line s (Err e) = stops s (ended_by line e)
