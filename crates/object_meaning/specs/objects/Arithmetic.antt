-- Integers and pointers as operands (C99 6.3.1.3, 6.5.3.3, 6.5.5 to 6.5.12). Signed results wrap.
use Rattle.std.specs.Prelude.{ℕ, ℤ, zero, pos, negsuc, ◌+ℤ◌, ◌-ℤ◌, Bool, true, false, cond, not, ◌&&◌, ◌||◌, nat_eq, nat_le, int_lt, int_le, int_div, List, Option, Some, None, Result, Ok, Err}
use Rattle.hs_base.specs.declared.ends.IntKind.{IntKind}
use Rattle.hs_base.specs.declared.ends.IntKind.TheVariants.{I32}
use Rattle.hs_base.specs.declared.ends.TrapKind.{TrapKind}
use Rattle.hs_base.specs.declared.ends.TrapKind.TheVariants as trap
use Rattle.hs_base.specs.declared.values.Pointer.{Pointer}
use Rattle.hs_base.specs.declared.values.Pointer.TheVariants as pointer
use Rattle.hs_base.specs.declared.values.Value.{Value}
use Rattle.hs_base.specs.Numbers.{wrapped}
use Rattle.hs_base.specs.Arithmetic.{negation_of, complement_of, sum_of, difference_of, product_of, quotient_of, remainder_of, and_of, or_of, xor_of, left_shift_of, right_shift_of}
use Rattle.hs_base.specs.Access.{Refusal, Trapped, and_then}
use Rattle.hs_base.specs.Object.{Object, object_at}
use Rattle.core_tree.specs.declared.statements.UnOp.{UnOp}
use Rattle.core_tree.specs.declared.statements.UnOp.TheVariants as un
use Rattle.core_tree.specs.declared.statements.BinOp.{BinOp}
use Rattle.core_tree.specs.declared.statements.BinOp.TheVariants as bin
use Rattle.core_tree.specs.declared.statements.CmpOp.{CmpOp}
use Rattle.core_tree.specs.declared.statements.CmpOp.TheVariants as cmp
use Rattle.object_meaning.specs.objects.Values.{number, address}

-- Integers

-- an operation on one integer of a kind
abbrev pub on_one : UnOp → IntKind → ℤ → ℤ
on_one un.Neg k a = negation_of k a
on_one un.Not k a = complement_of k a

-- an operation that has no result traps
abbrev pub or_traps : TrapKind → Option ℤ → Result Value Refusal
or_traps kind None = Err (Trapped kind)
or_traps kind (Some n) = Ok (number n)

-- an operation on two integers of a kind; the count of a shift is taken as it is
abbrev pub on_two : BinOp → IntKind → ℤ → ℤ → Result Value Refusal
on_two bin.Add k a b = Ok (number (sum_of k a b))
on_two bin.Sub k a b = Ok (number (difference_of k a b))
on_two bin.Mul k a b = Ok (number (product_of k a b))
on_two bin.Div k a b = or_traps trap.Divide (quotient_of k a b)
on_two bin.Rem k a b = or_traps trap.Divide (remainder_of k a b)
on_two bin.And k a b = Ok (number (and_of k a b))
on_two bin.Or k a b = Ok (number (or_of k a b))
on_two bin.Xor k a b = Ok (number (xor_of k a b))
on_two bin.Shl k a b = or_traps trap.Shift (left_shift_of k a b)
on_two bin.Shr k a b = or_traps trap.Shift (right_shift_of k a b)

-- 1 or 0
abbrev pub truth : Bool → Value
truth true = number (pos 1)
truth false = number (pos 0)

-- is it 0?
abbrev pub is_zero : ℤ → Bool
is_zero (pos zero) = true
is_zero _ = false

-- does a comparison hold of two integers?
abbrev pub compared : CmpOp → ℤ → ℤ → Bool
compared cmp.Eq a b = int_le a b && int_le b a
compared cmp.Ne a b = int_lt a b || int_lt b a
compared cmp.Lt a b = int_lt a b
compared cmp.Gt a b = int_lt b a
compared cmp.Le a b = int_le a b
compared cmp.Ge a b = int_le b a

-- Pointers: one stays within its object, from its start to one past its end

-- an offset of an object of that size
abbrev pub within_object : ℕ → ℕ → ℤ → Result Value Refusal
within_object birth size (pos offset) =
    cond (nat_le offset size) (Ok (address (pointer.At birth offset))) (Err (Trapped trap.Range))
within_object birth size (negsuc below) = Err (Trapped trap.Range)

-- a pointer moved by a number of bytes; null is moved by 0 alone
abbrev pub moved_by : List Object → Pointer → ℤ → Result Value Refusal
moved_by objects pointer.Null distance =
    cond (is_zero distance) (Ok (address pointer.Null)) (Err (Trapped trap.Null))
moved_by objects (pointer.At birth offset) distance =
    within_object birth (object_at objects birth).size (pos offset +ℤ distance)

-- the offsets of two pointers into one object
abbrev pub offsets : Pointer → Pointer → Result (ℕ × ℕ) Refusal
offsets pointer.Null q = Err (Trapped trap.Null)
offsets (pointer.At b offset) pointer.Null = Err (Trapped trap.Null)
offsets (pointer.At b offset) (pointer.At c other) = cond (nat_eq b c) (Ok (offset, other)) (Err (Trapped trap.Objects))

-- the difference in elements of so many bytes, rounded toward zero
abbrev pub difference : Pointer → Pointer → ℤ → Result Value Refusal
difference p q element =
    and_then (offsets p q) (λ both. Ok (number (wrapped I32 (int_div (pos both.0 -ℤ pos both.1) element))))

-- two pointers are equal where both are null, or both have the same object and offset
abbrev pub same_pointer : Pointer → Pointer → Bool
same_pointer pointer.Null pointer.Null = true
same_pointer pointer.Null (pointer.At c other) = false
same_pointer (pointer.At b offset) pointer.Null = false
same_pointer (pointer.At b offset) (pointer.At c other) = nat_eq b c && nat_eq offset other

-- which of two pointers into one object is lower
abbrev pub ordered : CmpOp → Pointer → Pointer → Result Value Refusal
ordered op p q = and_then (offsets p q) (λ both. Ok (truth (compared op (pos both.0) (pos both.1))))

-- any two pointers are equal or not; only those into one object are ordered
abbrev pub pointers_compared : CmpOp → Pointer → Pointer → Result Value Refusal
pointers_compared cmp.Eq p q = Ok (truth (same_pointer p q))
pointers_compared cmp.Ne p q = Ok (truth (not (same_pointer p q)))
pointers_compared cmp.Lt p q = ordered cmp.Lt p q
pointers_compared cmp.Gt p q = ordered cmp.Gt p q
pointers_compared cmp.Le p q = ordered cmp.Le p q
pointers_compared cmp.Ge p q = ordered cmp.Ge p q
