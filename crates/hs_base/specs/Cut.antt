-- A finished trace is cut at its first call that the stack has no room for.
use Rattle.std.specs.Prelude.{ℕ, ◌+◌, Bool, true, cond, nat_le, List, [], ◌∷◌, ◌++◌, Option, Some, None}
use Rattle.hs_base.specs.Trace.{Event, Enter, Ending, OutOfStack}
use Rattle.hs_base.specs.Cost.{stack_after}

-- does an event after a trace fit a stack of so many bytes? a call must not pass it
abbrev pub fits : ℕ → List Event → Event → Bool
fits stack trace (Enter cost line) = nat_le (stack_after trace + cost) stack
fits stack trace _ = true

-- the events that are kept, and the first that does not fit
pub record Cut : Type 0 where
  pub kept : List Event
  pub refused : Option Event

-- the cut of some events that follow others
abbrev pub cut_from : ℕ → List Event → List Event → Cut
cut_from stack before [] = record { kept = before; refused = None }
cut_from stack before (e ∷ events) =
    cond (fits stack before e) (cut_from stack (before ++ e ∷ []) events) (record { kept = before; refused = Some e })

abbrev pub cut : ℕ → List Event → Cut
cut stack trace = cut_from stack [] trace

-- how a run ends whose event is refused
abbrev pub refused_ending : Event → Option Ending
refused_ending (Enter cost line) = Some (OutOfStack line)
refused_ending _ = None

-- how a cut run ends: where an event is refused by that, and else as the whole run does
abbrev pub ending_of : Option Event → Option Ending → Option Ending
ending_of None ended = ended
ending_of (Some e) ended = refused_ending e
