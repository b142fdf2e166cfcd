-- Returns, and the end of memory locals by numbers.
use Rattle.std.specs.Prelude.{ℕ, List, [], ◌∷◌, Option, Some, None}
use Rattle.hs_base.specs.declared.values.Value.{Value}
use Rattle.hs_base.specs.Freeing.{end_numbers, ended}
use Rattle.hs_base.specs.State.{Frame, State}
use Rattle.core_tree.specs.declared.program.Core.{Core}
use Rattle.object_meaning.specs.objects.Values.{pointer_in}
use Rattle.object_meaning.specs.objects.Going.{with_objects}
use Rattle.object_meaning.specs.objects.Calls as object
use Rattle.object_meaning.specs.objects.Calls.{running_locals}
use Rattle.object_meaning.specs.counted.Pinning.{Pins, pinned}
use Rattle.object_meaning.specs.counted.CountedState.{Next, same_numbers, other_numbers}
use Rattle.object_meaning.specs.counted.Counting.{more, fewer, without_those_inside}

-- the newest of the waiting frames runs again, and its pins count no longer
abbrev pub go_back : Core → Pins → Value → List Frame → (ℕ → ℕ) → State → Next
go_back core pins answer [] numbers s = same_numbers numbers (object.go_back core answer [] s)
go_back core pins answer (caller ∷ waiting) numbers s =
    other_numbers (λ _ after. fewer numbers (pinned pins caller)) numbers (object.go_back core answer (caller ∷ waiting) s)

-- the memory locals of the call end, and the pointers inside them count no longer; or the first that escapes stops the run
abbrev pub end_locals : Core → Pins → ℕ → Value → Option ℕ → (ℕ → ℕ) → State → Next
end_locals core pins line answer (Some birth) numbers s =
    same_numbers numbers (object.end_locals core line answer (Some birth) s)
end_locals core pins line answer None numbers s =
    let locals = running_locals core s in
    go_back core pins answer s.waiting (without_those_inside s.objects locals numbers) (with_objects s (ended s.objects locals))

-- a return: the pins of the running frame and the answer are added and the pointers inside the ending locals taken off, and the
-- first of them whose number is not zero then escapes
abbrev pub give_back : Core → Pins → ℕ → Value → (ℕ → ℕ) → State → Next
give_back core pins line answer numbers s =
    let escapes = end_numbers s.objects (running_locals core s) (Some (pointer_in answer)) (more numbers (pinned pins s.running)) in
    end_locals core pins line answer escapes numbers s
