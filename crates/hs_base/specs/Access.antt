-- What an access, a copy and a set of bytes answer, and what they leave. Cases that C99 6.5.3.2, 6.5.6 and 7.21 leave
-- undefined are decided here.
use Rattle.std.specs.Prelude.{ℕ, zero, suc, ◌+◌, ◌-◌, ◌*◌, ◌%◌, ◌/◌, Bool, true, false, cond, not, ◌&&◌, ◌||◌, nat_lt, nat_le, nat_eq, pos, ℤ, List, [], ◌∷◌, ◌++◌, map, filter, length, take, drop, Result, Ok, Err, replicate, slice_index_or, slice_set}
use Rattle.std.specs.List.{list_any}
use Rattle.hs_base.specs.declared.ends.IntKind.{IntKind}
use Rattle.hs_base.specs.declared.ends.TrapKind.{TrapKind}
use Rattle.hs_base.specs.declared.ends.TrapKind.TheVariants as trap
use Rattle.hs_base.specs.declared.values.Pointer.{Pointer}
use Rattle.hs_base.specs.declared.values.Pointer.TheVariants as pointer
use Rattle.hs_base.specs.Numbers.{low_bits, width, wrapped}
use Rattle.hs_base.specs.Object.{Object, is_dead, object_at}

-- why an operation on objects is refused: a trap, or the object is dead
pub data Refusal : Type 0 where
  Trapped : (kind : TrapKind) → Refusal
  ReadsDead : Refusal

-- an object and an offset in it
pub record Place : Type 0 where
  pub birth : ℕ
  pub offset : ℕ

-- Slots

-- the slots of a list that begin below an offset
abbrev pub slots_below : List ℕ → ℕ → List ℕ
slots_below slots offset = filter (λ s. nat_lt s offset) slots

-- the slots that lie whole within n bytes from an offset
abbrev pub slots_within : List ℕ → ℕ → ℕ → List ℕ
slots_within slots offset n = filter (λ s. nat_le offset s && nat_le (s + 4) (offset + n)) slots

-- is there a slot that has a byte within n bytes from an offset?
abbrev pub touches_slot : List ℕ → ℕ → ℕ → Bool
touches_slot slots offset n = list_any (λ s. nat_lt s (offset + n) && nat_lt offset (s + 4)) slots

-- does an edge of n bytes from an offset lie inside a slot?
abbrev pub cuts_slot : List ℕ → ℕ → ℕ → Bool
cuts_slot slots offset n =
    list_any (λ s. (nat_lt s offset && nat_lt offset (s + 4)) || (nat_lt s (offset + n) && nat_lt (offset + n) (s + 4))) slots

abbrev pub is_slot : List ℕ → ℕ → Bool
is_slot slots offset = list_any (λ s. nat_eq s offset) slots

-- Accesses

abbrev pub if_so : {A : Type 0} → Bool → Refusal → Result A Refusal → Result A Refusal
if_so test refusal next = cond test (Err refusal) next

-- n bytes at an offset of an object, tried in this order: dead, past the size, at an odd offset, against the slots
abbrev pub access_in : Object → ℕ → ℕ → ℕ → Bool → Result Place Refusal
access_in o birth offset n against_slots =
    if_so (is_dead o.standing) ReadsDead (if_so (nat_lt o.size (offset + n)) (Trapped trap.Bounds) (if_so (not (nat_eq (offset % n) 0)) (Trapped trap.Align) (if_so against_slots (Trapped trap.Layout) (Ok (record { birth = birth; offset = offset })))))

-- an access to an integer of n bytes: it may touch no slot
abbrev pub access_integer : List Object → Pointer → ℕ → Result Place Refusal
access_integer objects pointer.Null n = Err (Trapped trap.Null)
access_integer objects (pointer.At birth offset) n =
    let o = object_at objects birth in access_in o birth offset n (touches_slot o.slots offset n)

-- an access to a pointer, which has 4 bytes: it must stand at the start of a slot
abbrev pub access_pointer : List Object → Pointer → Result Place Refusal
access_pointer objects pointer.Null = Err (Trapped trap.Null)
access_pointer objects (pointer.At birth offset) =
    let o = object_at objects birth in access_in o birth offset 4 (not (is_slot o.slots offset))

-- the number that bytes stand for, the lowest first
abbrev pub little_endian : List ℕ → ℕ
little_endian [] = 0
little_endian (b ∷ bytes) = b + 256 * little_endian bytes

-- the bytes of a number, the lowest first
abbrev pub bytes_of : ℕ → ℕ → List ℕ
bytes_of zero value = []
bytes_of (suc n) value = value % 256 ∷ bytes_of n (value / 256)

-- what stands in an object at an offset
abbrev pub integer_at : IntKind → Object → ℕ → ℤ
integer_at k o offset = wrapped k (pos (little_endian (take (width k) (drop offset o.bytes))))

abbrev pub pointer_at : Object → ℕ → Pointer
pointer_at o offset = slice_index_or o.pointers (length (slots_below o.slots offset)) pointer.Null

-- a list with another in place of as many items from a place on
abbrev pub overlaid : {A : Type 0} → List A → ℕ → List A → List A
overlaid items place new = take place items ++ new ++ drop (place + length new) items

-- the object with an integer of n bytes, or a pointer, at an offset
abbrev pub with_integer : IntKind → Object → ℕ → ℤ → Object
with_integer k o offset value =
    record o { bytes = overlaid o.bytes offset (bytes_of (width k) (low_bits (8 * width k) value)) }

abbrev pub with_pointer : Object → ℕ → Pointer → Object
with_pointer o offset p = record o { pointers = slice_set o.pointers (length (slots_below o.slots offset)) p }

abbrev pub with_object : List Object → ℕ → Object → List Object
with_object objects birth o = slice_set objects birth o

-- Ranges of bytes (C99 7.21.2.1, 7.21.2.2, 7.21.6.1)

-- a range of n bytes: null, dead, past the size
abbrev pub range_at : List Object → Pointer → ℕ → Result Place Refusal
range_at objects pointer.Null n = Err (Trapped trap.Null)
range_at objects (pointer.At birth offset) n =
    let o = object_at objects birth in
    if_so (is_dead o.standing) ReadsDead (if_so (nat_lt o.size (offset + n)) (Trapped trap.Bounds) (Ok (record { birth = birth; offset = offset })))

-- the distances of the slots within a range from its start
abbrev pub distances : List ℕ → ℕ → ℕ → List ℕ
distances slots offset n = map (λ s. s - offset) (slots_within slots offset n)

abbrev pub same_numbers : List ℕ → List ℕ → Bool
same_numbers [] [] = true
same_numbers [] (y ∷ ys) = false
same_numbers (x ∷ xs) [] = false
same_numbers (x ∷ xs) (y ∷ ys) = nat_eq x y && same_numbers xs ys

-- no slot is cut by either range, and the slots within them stand at the same distances
abbrev pub may_copy : Object → ℕ → Object → ℕ → ℕ → Bool
may_copy d to s from n =
    not (cuts_slot d.slots to n) && not (cuts_slot s.slots from n) && same_numbers (distances d.slots to n) (distances s.slots from n)

-- the destination after n bytes were copied to it, as through a buffer
abbrev pub copied : Object → ℕ → Object → ℕ → ℕ → Object
copied d to s from n = record d {
  bytes = overlaid d.bytes to (take n (drop from s.bytes));
  pointers = overlaid d.pointers (length (slots_below d.slots to)) (take (length (slots_within s.slots from n)) (drop (length (slots_below s.slots from)) s.pointers));
}

abbrev pub copy_between : List Object → ℕ → Place → Place → Result (List Object) Refusal
copy_between objects n d s =
    let into = object_at objects d.birth in
    let out = object_at objects s.birth in
    if_so (not (may_copy into d.offset out s.offset n)) (Trapped trap.Layout) (Ok (with_object objects d.birth (copied into d.offset out s.offset n)))

abbrev pub and_then : {A B : Type 0} → Result A Refusal → (A → Result B Refusal) → Result B Refusal
and_then (Ok a) next = next a
and_then (Err e) next = Err e

-- a copy of n bytes: the destination's range, the source's, then the slots; a copy of no bytes tries nothing
abbrev pub copy : List Object → Pointer → Pointer → ℕ → Result (List Object) Refusal
copy objects d s zero = Ok objects
copy objects d s (suc m) =
    and_then (range_at objects d (suc m)) (λ to. and_then (range_at objects s (suc m)) (λ from. copy_between objects (suc m) to from))

-- no slot is cut, and a whole slot lies within the range only where the byte is 0
abbrev pub may_set : Object → ℕ → ℕ → ℕ → Bool
may_set o offset byte n =
    not (cuts_slot o.slots offset n) && (nat_eq byte 0 || nat_eq (length (slots_within o.slots offset n)) 0)

-- an object with n bytes set to one value; the slots within are null then
abbrev pub filled : Object → ℕ → ℕ → ℕ → Object
filled o offset byte n = record o {
  bytes = overlaid o.bytes offset (replicate n byte);
  pointers = overlaid o.pointers (length (slots_below o.slots offset)) (replicate (length (slots_within o.slots offset n)) pointer.Null);
}

-- a set of n bytes; a set of no bytes tries nothing
abbrev pub set_bytes : List Object → Pointer → ℕ → ℕ → Result (List Object) Refusal
set_bytes objects p byte zero = Ok objects
set_bytes objects p byte (suc m) =
    and_then (range_at objects p (suc m)) (λ at. let o = object_at objects at.birth in if_so (not (may_set o at.offset byte (suc m))) (Trapped trap.Layout) (Ok (with_object objects at.birth (filled o at.offset byte (suc m)))))
