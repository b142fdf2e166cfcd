-- What calls cost on the stack, in bytes.
use Rattle.std.specs.Prelude.{ℕ, ◌+◌, ◌*◌, List, [], ◌∷◌, sum}
use Rattle.std.specs.List.{sum_by}
use Rattle.hs_base.specs.Trace.{Event, Enter, Leave}
use Rattle.hs_base.specs.Place.{block_size, rounded_up}

-- a call of a function with so many registers, and memory locals of these sizes
abbrev pub call_cost : ℕ → List ℕ → ℕ
call_cost registers sizes = 16 + rounded_up (8 * registers) + sum_by block_size sizes

abbrev pub without_newest : List ℕ → List ℕ
without_newest [] = []
without_newest (newest ∷ costs) = costs

-- the costs of the calls that are active after some events, newest first, from those active before them
abbrev pub active_after : List ℕ → List Event → List ℕ
active_after costs [] = costs
active_after costs (Enter cost line ∷ events) = active_after (cost ∷ costs) events
active_after costs (Leave ∷ events) = active_after (without_newest costs) events
active_after costs (_ ∷ events) = active_after costs events

-- the bytes of stack that are in use after a trace
abbrev pub stack_after : List Event → ℕ
stack_after trace = sum (active_after [] trace)
