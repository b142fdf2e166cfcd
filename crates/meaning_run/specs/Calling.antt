-- The state once a function was called.
use Rattle.std.specs.Prelude.{◌∷◌, ℕ, List, length}
use Rattle.hs_base.specs.declared.values.Value.{Value}
use Rattle.hs_base.specs.State.{State}
use Rattle.core_tree.specs.declared.program.Core.{Core}
use Rattle.object_meaning.specs.objects.Calls.{new_frame, with_locals}

-- the frame that calls waits, the new one runs, and its memory locals are made
abbrev pub entered : Core → ℕ → List Value → State → State
entered core f arguments s =
    let t : State = record s { running = new_frame core f arguments (length s.objects); waiting = s.running ∷ s.waiting } in with_locals core t
