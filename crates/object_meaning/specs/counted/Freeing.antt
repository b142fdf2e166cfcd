-- Objects are freed and grown (C99 7.20.3).
use Rattle.std.specs.Prelude.{ℕ, Bool, true, false, min, List, [], length, Some, Result, Ok, Err}
use Rattle.hs_base.specs.declared.ends.Reason.{Reason}
use Rattle.hs_base.specs.declared.values.Pointer.{Pointer}
use Rattle.hs_base.specs.declared.values.Pointer.TheVariants as pointer
use Rattle.hs_base.specs.Access.{Refusal}
use Rattle.hs_base.specs.Freeing.{freed_at}
use Rattle.hs_base.specs.Object.{Object, object_at}
use Rattle.hs_base.specs.State.{State}
use Rattle.c_types.specs.declared.layouts.Layout.{Layout}
use Rattle.core_tree.specs.declared.program.Core.{Core}
use Rattle.object_meaning.specs.objects.Values.{address, start_of}
use Rattle.object_meaning.specs.objects.Going.{put, with_objects}
use Rattle.object_meaning.specs.objects.Making.{with_new}
use Rattle.object_meaning.specs.objects.Memory.{copied}
use Rattle.object_meaning.specs.objects.Heap as object
use Rattle.object_meaning.specs.objects.Heap.{birth_of, no_place, enqueue}
use Rattle.object_meaning.specs.counted.Pinning.{Pins}
use Rattle.object_meaning.specs.counted.CountedState.{Next, same_numbers}
use Rattle.object_meaning.specs.counted.Counting.{renumbered}
use Rattle.object_meaning.specs.counted.Checking.{in_scope}

-- an object that may be freed is queued, and else the run stops
abbrev pub free_named : Core → Pins → ℕ → Result ℕ Reason → (ℕ → ℕ) → State → Next
free_named core pins line (Ok birth) numbers s =
    in_scope core pins s.scopes numbers s [] numbers (enqueue line birth s)
free_named core pins line (Err reason) numbers s = same_numbers numbers (object.free_named core line (Err reason) s)

-- a free of null does nothing
abbrev pub free : Core → Pins → ℕ → Pointer → (ℕ → ℕ) → State → Next
free core pins line pointer.Null numbers s = same_numbers numbers (object.free core line pointer.Null s)
free core pins line (pointer.At birth offset) numbers s =
    free_named core pins line (freed_at s.objects birth offset) numbers s

-- the old object's bytes are in the new one, and so are its pointers: the old one is queued, and a register takes the start of
-- the new one
abbrev pub grown : Core → Pins → ℕ → ℕ → ℕ → ℕ → State → (ℕ → ℕ) → State → Result (List Object) Refusal → Next
grown core pins line r size old before numbers s (Ok objects) =
    let new = length before.objects in
    let t = with_objects s objects in
    in_scope core pins s.scopes numbers before (birth_of line size before) (renumbered new numbers s t) (put (enqueue line old t) (Some r) (address (start_of new)))
grown core pins line r size old before numbers s (Err e) =
    same_numbers numbers (object.grown core line r size old before s (Err e))

-- an object is copied to a new one as far as both go, where there is a place for that
abbrev pub grow_old : Bool → Core → Pins → ℕ → ℕ → ℕ → ℕ → Layout → (ℕ → ℕ) → State → Next
grow_old false core pins line r old size element numbers s = same_numbers numbers (no_place r s)
grow_old true core pins line r old size element numbers s =
    let t = with_new line size element s in
    grown core pins line r size old s numbers t (copied t.objects (start_of (length s.objects)) (start_of old) (min (object_at s.objects old).size size))

-- an object that may be freed is grown, and else the run stops
abbrev pub grow_named : Core → Pins → (ℕ → Bool) → ℕ → ℕ → Result ℕ Reason → ℕ → Layout → (ℕ → ℕ) → State → Next
grow_named core pins fits line r (Ok old) size element numbers s =
    grow_old (fits size) core pins line r old size element numbers s
grow_named core pins fits line r (Err reason) size element numbers s =
    same_numbers numbers (object.grow_named core fits line r (Err reason) size element s)

-- growing null makes a new object
abbrev pub grow : Core → Pins → (ℕ → Bool) → ℕ → ℕ → Pointer → ℕ → Layout → (ℕ → ℕ) → State → Next
grow core pins fits line r pointer.Null size element numbers s =
    same_numbers numbers (object.grow core fits line r pointer.Null size element s)
grow core pins fits line r (pointer.At birth offset) size element numbers s =
    grow_named core pins fits line r (freed_at s.objects birth offset) size element numbers s
