-- Objects are freed and grown (C99 7.20.3).
use Rattle.std.specs.Prelude.{ℕ, Bool, true, false, min, List, [], length, Some, None, Result, Ok, Err}
use Rattle.hs_base.specs.declared.ends.Reason.{Reason}
use Rattle.hs_base.specs.declared.values.Pointer.{Pointer}
use Rattle.hs_base.specs.declared.values.Pointer.TheVariants as pointer
use Rattle.hs_base.specs.Access.{Refusal}
use Rattle.hs_base.specs.Freeing.{freed_at}
use Rattle.hs_base.specs.Object.{Object, object_at}
use Rattle.hs_base.specs.State.{State}
use Rattle.hs_base.specs.Trace.{BadFree}
use Rattle.hs_base.specs.Runs as runs
use Rattle.c_types.specs.declared.layouts.Layout.{Layout}
use Rattle.flat_code.specs.declared.program.Code.{Code}
use Rattle.object_meaning.specs.objects.Values.{address, start_of}
use Rattle.object_meaning.specs.objects.Going.{onward, put, with_objects, ended_by}
use Rattle.object_meaning.specs.objects.Making.{with_new}
use Rattle.object_meaning.specs.objects.Memory.{copied}
use Rattle.object_meaning.specs.objects.Heap.{birth_of, no_place, make, enqueue}
use Rattle.object_meaning.specs.code.CodeState.{Next, kept, same_numbers}
use Rattle.object_meaning.specs.counted.Counting.{renumbered}
use Rattle.object_meaning.specs.code.Checking.{in_scope}

-- a free that stops the run
abbrev pub refused : ℕ → Reason → (ℕ → ℕ) → State → Next
refused line reason numbers s = runs.Stops (kept numbers s) [] (kept numbers s) (BadFree reason line None)

-- an object that may be freed is queued, and else the run stops
abbrev pub free_named : Code → ℕ → Result ℕ Reason → (ℕ → ℕ) → State → Next
free_named code line (Ok birth) numbers s = in_scope code s.scopes numbers s [] numbers (enqueue line birth s)
free_named code line (Err reason) numbers s = refused line reason numbers s

-- a free of null does nothing
abbrev pub free : Code → ℕ → Pointer → (ℕ → ℕ) → State → Next
free code line pointer.Null numbers s = runs.Goes (kept numbers s) [] (kept numbers (onward s))
free code line (pointer.At birth offset) numbers s = free_named code line (freed_at s.objects birth offset) numbers s

-- the old object's bytes are in the new one: the old one is queued, and a register takes the start of the new one
abbrev pub grown : Code → ℕ → ℕ → ℕ → ℕ → State → (ℕ → ℕ) → State → Result (List Object) Refusal → Next
grown code line r size old before numbers s (Ok objects) =
    let new = length before.objects in
    let t = with_objects s objects in
    in_scope code s.scopes numbers before (birth_of line size before) (renumbered new numbers s t) (put (enqueue line old t) (Some r) (address (start_of new)))
grown code line r size old before numbers s (Err e) =
    runs.Stops (kept numbers before) (birth_of line size before) (kept numbers s) (ended_by line e)

-- an object is copied to a new one as far as both go, where there is a place for that
abbrev pub grow_old : Bool → Code → ℕ → ℕ → ℕ → ℕ → Layout → (ℕ → ℕ) → State → Next
grow_old false code line r old size element numbers s = same_numbers numbers (no_place r s)
grow_old true code line r old size element numbers s =
    let t = with_new line size element s in
    grown code line r size old s numbers t (copied t.objects (start_of (length s.objects)) (start_of old) (min (object_at s.objects old).size size))

-- an object that may be freed is grown, and else the run stops
abbrev pub grow_named : Code → (ℕ → Bool) → ℕ → ℕ → Result ℕ Reason → ℕ → Layout → (ℕ → ℕ) → State → Next
grow_named code fits line r (Ok old) size element numbers s =
    grow_old (fits size) code line r old size element numbers s
grow_named code fits line r (Err reason) size element numbers s = refused line reason numbers s

-- growing null makes a new object
abbrev pub grow : Code → (ℕ → Bool) → ℕ → ℕ → Pointer → ℕ → Layout → (ℕ → ℕ) → State → Next
grow code fits line r pointer.Null size element numbers s = same_numbers numbers (make fits line r size element s)
grow code fits line r (pointer.At birth offset) size element numbers s =
    grow_named code fits line r (freed_at s.objects birth offset) size element numbers s
