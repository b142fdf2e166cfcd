-- Reading and writing objects.
use Rattle.std.specs.Prelude.{ℕ, ℤ, List, [], length, take, drop, Result, Ok}
use Rattle.std.specs.List.{list_any}
use Rattle.hs_base.specs.declared.ends.IntKind.{IntKind}
use Rattle.hs_base.specs.declared.values.Pointer.{Pointer}
use Rattle.hs_base.specs.declared.values.Pointer.TheVariants as pointer
use Rattle.hs_base.specs.declared.values.Value.{Value}
use Rattle.hs_base.specs.Numbers.{width}
use Rattle.hs_base.specs.Access as access
use Rattle.hs_base.specs.Access.{Refusal, ReadsDead, if_so, and_then, access_integer, access_pointer, integer_at, with_integer, with_pointer, with_object, slots_below, slots_within, copy}
use Rattle.hs_base.specs.Object.{Object, object_at}
use Rattle.object_meaning.specs.objects.Values.{number, address, is_stale}

-- the integer of a kind at a pointer
abbrev pub loaded : List Object → IntKind → Pointer → Result Value Refusal
loaded objects k p =
    and_then (access_integer objects p (width k)) (λ at. Ok (number (integer_at k (object_at objects at.birth) at.offset)))

-- a slot is not read where it points to a dead object
abbrev pub unless_stale : List Object → Pointer → Result Value Refusal
unless_stale objects p = if_so (is_stale objects p) ReadsDead (Ok (address p))

-- the pointer at a pointer
abbrev pub loaded_pointer : List Object → Pointer → Result Value Refusal
loaded_pointer objects p =
    and_then (access_pointer objects p) (λ at. unless_stale objects (access.pointer_at (object_at objects at.birth) at.offset))

-- the objects with an integer of a kind at a pointer
abbrev pub stored : List Object → IntKind → Pointer → ℤ → Result (List Object) Refusal
stored objects k p n =
    and_then (access_integer objects p (width k)) (λ at. Ok (with_object objects at.birth (with_integer k (object_at objects at.birth) at.offset n)))

-- the objects with a pointer at a pointer
abbrev pub stored_pointer : List Object → Pointer → Pointer → Result (List Object) Refusal
stored_pointer objects p q =
    and_then (access_pointer objects p) (λ at. Ok (with_object objects at.birth (with_pointer (object_at objects at.birth) at.offset q)))

-- the pointers in the slots within a range
abbrev pub pointers_in_range : List Object → Pointer → ℕ → List Pointer
pointers_in_range objects pointer.Null n = []
pointers_in_range objects (pointer.At birth offset) n =
    let o = object_at objects birth in take (length (slots_within o.slots offset n)) (drop (length (slots_below o.slots offset)) o.pointers)

-- a copy of n bytes, which reads the pointers within the source
abbrev pub copied : List Object → Pointer → Pointer → ℕ → Result (List Object) Refusal
copied objects d s n =
    and_then (copy objects d s n) (λ new. if_so (list_any (is_stale objects) (pointers_in_range objects s n)) ReadsDead (Ok new))
