-- Scopes, and the check by numbers where the outermost one is closed.
use Rattle.std.specs.Prelude.{ℕ, zero, suc, List, []}
use Rattle.hs_base.specs.Freeing.{check_numbers}
use Rattle.hs_base.specs.State.{State}
use Rattle.hs_base.specs.Trace.{Event}
use Rattle.core_tree.specs.declared.program.Core.{Core}
use Rattle.object_meaning.specs.objects.Going.{goes, onward}
use Rattle.object_meaning.specs.objects.Scoping as object
use Rattle.object_meaning.specs.counted.Pinning.{Pins, pinned}
use Rattle.object_meaning.specs.counted.CountedState.{Next, numbered, same_numbers}
use Rattle.object_meaning.specs.counted.Counting.{more, without_those_inside}

-- the check: the pins of the running frame are added and the pointers inside the queued objects taken off, and the first of
-- the queue whose number is not zero then decides; where none is, the pointers inside the queued objects count no longer
abbrev pub checked : Core → Pins → (ℕ → ℕ) → State → List Event → (ℕ → ℕ) → State → Next
checked core pins first before events numbers s =
    let held = check_numbers s.objects s.queue (more numbers (pinned pins s.running)) in
    numbered first (λ _ after. without_those_inside s.objects s.queue numbers) numbers (object.decided core held before events s)

-- the outermost scope is closed with a check
abbrev pub leave : Core → Pins → ℕ → (ℕ → ℕ) → State → Next
leave core pins zero numbers s = same_numbers numbers (object.leave core zero s)
leave core pins (suc zero) numbers s = checked core pins numbers s [] numbers s
leave core pins (suc (suc n)) numbers s = same_numbers numbers (object.leave core (suc (suc n)) s)

-- a free goes on, or where no scope is open it has one of its own
abbrev pub in_scope : Core → Pins → ℕ → (ℕ → ℕ) → State → List Event → (ℕ → ℕ) → State → Next
in_scope core pins zero first before events numbers s =
    checked core pins first before events numbers (record s { scopes = 1 })
in_scope core pins (suc n) first before events numbers s =
    numbered first (λ _ after. numbers) numbers (goes before events (onward s))
