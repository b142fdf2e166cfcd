-- Heap objects are made, grown and freed (C99 7.20.3). Whether a new object has a place is a test of its size.
use Rattle.std.specs.Prelude.{ℕ, Bool, true, false, min, List, [], ◌∷◌, ◌++◌, length, Some, None, Result, Ok, Err}
use Rattle.hs_base.specs.declared.ends.Reason.{Reason}
use Rattle.hs_base.specs.declared.values.Pointer.{Pointer}
use Rattle.hs_base.specs.declared.values.Pointer.TheVariants as pointer
use Rattle.hs_base.specs.Access.{Refusal}
use Rattle.hs_base.specs.Freeing.{freed_at, queued}
use Rattle.hs_base.specs.Object.{Object, object_at}
use Rattle.hs_base.specs.State.{State}
use Rattle.hs_base.specs.Trace.{Event, New, BadFree}
use Rattle.c_types.specs.declared.layouts.Layout.{Layout}
use Rattle.core_tree.specs.declared.program.Core.{Core}
use Rattle.object_meaning.specs.objects.Values.{address, start_of}
use Rattle.object_meaning.specs.objects.Going.{Next, goes, stops, stops_after, onward, put, write, with_objects, ended_by}
use Rattle.object_meaning.specs.objects.Making.{with_new}
use Rattle.object_meaning.specs.objects.Memory.{copied}
use Rattle.object_meaning.specs.objects.Scoping.{in_scope}

-- the events of a new object
abbrev pub birth_of : ℕ → ℕ → State → List Event
birth_of line size s = New (length s.objects) size line ∷ []

-- a register takes null, and nothing else changes
abbrev pub no_place : ℕ → State → Next
no_place r s = goes s [] (write s (Some r) (address pointer.Null))

-- a register takes the start of a new object where there is a place for it
abbrev pub made : Bool → ℕ → ℕ → ℕ → Layout → State → Next
made false line r size element s = no_place r s
made true line r size element s =
    goes s (birth_of line size s) (write (with_new line size element s) (Some r) (address (start_of (length s.objects))))

-- the same, by the test of its size
abbrev pub make : (ℕ → Bool) → ℕ → ℕ → ℕ → Layout → State → Next
make fits line r size element s = made (fits size) line r size element s

-- an object is queued with the line of its free
abbrev pub enqueue : ℕ → ℕ → State → State
enqueue line birth s = record s { objects = queued s.objects birth line; queue = s.queue ++ birth ∷ [] }

-- an object that may be freed is queued, and else the run stops
abbrev pub free_named : Core → ℕ → Result ℕ Reason → State → Next
free_named core line (Ok birth) s = in_scope core s.scopes s [] (enqueue line birth s)
free_named core line (Err reason) s = stops s (BadFree reason line None)

-- a free of null does nothing
abbrev pub free : Core → ℕ → Pointer → State → Next
free core line pointer.Null s = goes s [] (onward s)
free core line (pointer.At birth offset) s = free_named core line (freed_at s.objects birth offset) s

-- the old object's bytes are in the new one: the old one is queued, and a register takes the start of the new one
abbrev pub grown : Core → ℕ → ℕ → ℕ → ℕ → State → State → Result (List Object) Refusal → Next
grown core line r size old before s (Ok objects) =
    in_scope core s.scopes before (birth_of line size before) (put (enqueue line old (with_objects s objects)) (Some r) (address (start_of (length before.objects))))
grown core line r size old before s (Err e) = stops_after before (birth_of line size before) s (ended_by line e)

-- an object is copied to a new one as far as both go, where there is a place for that
abbrev pub grow_old : Bool → Core → ℕ → ℕ → ℕ → ℕ → Layout → State → Next
grow_old false core line r old size element s = no_place r s
grow_old true core line r old size element s =
    let t = with_new line size element s in
    grown core line r size old s t (copied t.objects (start_of (length s.objects)) (start_of old) (min (object_at s.objects old).size size))

-- an object that may be freed is grown, and else the run stops
abbrev pub grow_named : Core → (ℕ → Bool) → ℕ → ℕ → Result ℕ Reason → ℕ → Layout → State → Next
grow_named core fits line r (Ok old) size element s = grow_old (fits size) core line r old size element s
grow_named core fits line r (Err reason) size element s = stops s (BadFree reason line None)

-- growing null makes a new object
abbrev pub grow : Core → (ℕ → Bool) → ℕ → ℕ → Pointer → ℕ → Layout → State → Next
grow core fits line r pointer.Null size element s = make fits line r size element s
grow core fits line r (pointer.At birth offset) size element s =
    grow_named core fits line r (freed_at s.objects birth offset) size element s
