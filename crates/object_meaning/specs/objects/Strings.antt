-- Strings, which are read byte by byte (C99 7.21.4.2, 7.21.6.3).
use Rattle.std.specs.Prelude.{ℕ, ℤ, zero, suc, pos, negsuc, ◌+◌, cond, nat_eq, nat_lt, List, [], ◌∷◌, slice_index, Result, Ok, Err}
use Rattle.hs_base.specs.declared.ends.TrapKind.TheVariants as trap
use Rattle.hs_base.specs.declared.values.Pointer.{Pointer}
use Rattle.hs_base.specs.declared.values.Pointer.TheVariants as pointer
use Rattle.hs_base.specs.Access.{Refusal, Trapped, access_integer, and_then}
use Rattle.hs_base.specs.Object.{Object, object_at}

-- a pointer so many bytes behind another, which may leave the object
abbrev pub behind : Pointer → ℕ → Pointer
behind pointer.Null i = pointer.Null
behind (pointer.At birth offset) i = pointer.At birth (offset + i)

-- the i-th byte behind a pointer, read as an access of one byte does
abbrev pub byte_behind : List Object → Pointer → ℕ → Result ℕ Refusal
byte_behind objects p i =
    and_then (access_integer objects (behind p i) 1) (λ at. Ok (slice_index (object_at objects at.birth).bytes at.offset))

-- one byte more than an object has: no string in it is longer
abbrev pub room_at : List Object → Pointer → ℕ
room_at objects pointer.Null = 1
room_at objects (pointer.At birth offset) = (object_at objects birth).size + 1

-- a byte and those behind it, up to the first zero
abbrev pub with_byte : ℕ → Result (List ℕ) Refusal → Result (List ℕ) Refusal
with_byte byte rest = cond (nat_eq byte 0) (Ok []) (and_then rest (λ bytes. Ok (byte ∷ bytes)))

-- the bytes from the i-th on up to the first zero, of so many at most
abbrev pub string_from : List Object → Pointer → ℕ → ℕ → Result (List ℕ) Refusal
string_from objects p i zero = Err (Trapped trap.Bounds)
string_from objects p i (suc most) =
    and_then (byte_behind objects p i) (λ byte. with_byte byte (string_from objects p (i + 1) most))

-- the bytes at a pointer up to the first zero
abbrev pub string_at : List Object → Pointer → Result (List ℕ) Refusal
string_at objects p = string_from objects p 0 (room_at objects p)

-- the order of two bytes, and where both are the same that of the rest; after a zero there is none
abbrev pub byte_order : ℕ → ℕ → Result ℤ Refusal → Result ℤ Refusal
byte_order a b rest =
    cond (nat_lt a b) (Ok (negsuc 0)) (cond (nat_lt b a) (Ok (pos 1)) (cond (nat_eq a 0) (Ok (pos 0)) rest))

-- the order of two strings from their i-th bytes on, of which the first one's is read first
abbrev pub order_from : List Object → Pointer → Pointer → ℕ → ℕ → Result ℤ Refusal
order_from objects p q i zero = Err (Trapped trap.Bounds)
order_from objects p q i (suc most) =
    and_then (byte_behind objects p i) (λ a. and_then (byte_behind objects q i) (λ b. byte_order a b (order_from objects p q (i + 1) most)))

-- the order of two strings: below 0, 0 or above 0 as -1, 0 or 1
abbrev pub order_of : List Object → Pointer → Pointer → Result ℤ Refusal
order_of objects p q = order_from objects p q 0 (room_at objects p)
