-- The operators of conditions (C99 6.5.3.3, 6.5.5 to 6.5.15, as 6.6 and 6.10.1 have them): of two operands the common type is
-- unsigned where one of them is (6.3.1.8); a signed result that 64 bits do not hold is missing, and an unsigned one is taken modulo
-- 2 to the 64.
use Rattle.std.specs.Prelude.{ℕ, ◌+◌, ◌-◌, ◌*◌, ◌/◌, ◌%◌, ◌^◌, ℤ, pos, ◌+ℤ◌, ◌-ℤ◌, ◌*ℤ◌, neg_ℤ, Bool, true, false, not, nat_lt, nat_le, nat_eq, int_lt, int_le, int_div, int_rem, bit_and, bit_or, bit_xor, if◌then◌else◌, Option, Some, None, option_map}
use Rattle.std.specs.Ordering.{int_eq}
use Rattle.std.specs.Int.{w64, bit_not, int_bit_and, int_bit_or, int_bit_xor, int_bit_not, int_shr}
use Rattle.c_tree.specs.declared.operator.UnaryOp.{UnaryOp}
use Rattle.c_tree.specs.declared.operator.UnaryOp.TheVariants as u
use Rattle.c_tree.specs.declared.operator.BinaryOp.{BinaryOp}
use Rattle.c_tree.specs.declared.operator.BinaryOp.TheVariants as b
use Rattle.c_conditions.specs.declared.operand.Operand.{Operand}
use Rattle.c_conditions.specs.declared.operand.Operand.TheVariants.{Signed, Unsigned}
use Rattle.c_conditions.specs.Operands.{held, from, from_both, truth, is_true, as_unsigned, places}

-- nothing for the divisor 0
abbrev pub for_divisor : {A : Type 0} → Bool → Option A → Option A
for_divisor is_zero n = if is_zero then None else n

-- signed numbers: a remainder is missing where its quotient is
abbrev pub signed_result : BinaryOp → ℤ → ℤ → Option ℤ
signed_result b.Multiply a c = held (a *ℤ c)
signed_result b.Divide a c = for_divisor (int_eq c (pos 0)) (held (int_div a c))
signed_result b.Remainder a c = for_divisor (int_eq c (pos 0)) (option_map (λ q. int_rem a c) (held (int_div a c)))
signed_result b.Add a c = held (a +ℤ c)
signed_result b.Subtract a c = held (a -ℤ c)
signed_result b.BitAnd a c = Some (int_bit_and w64 a c)
signed_result b.BitXor a c = Some (int_bit_xor w64 a c)
signed_result b.BitOr a c = Some (int_bit_or w64 a c)
signed_result _ a c = None

-- unsigned numbers
abbrev pub unsigned_result : BinaryOp → ℕ → ℕ → Option ℕ
unsigned_result b.Multiply a c = Some (a * c % 2 ^ 64)
unsigned_result b.Divide a c = for_divisor (nat_eq c 0) (Some (a / c))
unsigned_result b.Remainder a c = for_divisor (nat_eq c 0) (Some (a % c))
unsigned_result b.Add a c = Some ((a + c) % 2 ^ 64)
unsigned_result b.Subtract a c = Some ((a + (2 ^ 64 - c)) % 2 ^ 64)
unsigned_result b.BitAnd a c = Some (bit_and a c)
unsigned_result b.BitXor a c = Some (bit_xor a c)
unsigned_result b.BitOr a c = Some (bit_or a c)
unsigned_result _ a c = None

-- comparisons
abbrev pub is_comparison : BinaryOp → Bool
is_comparison b.Equal = true
is_comparison b.NotEqual = true
is_comparison b.Less = true
is_comparison b.Greater = true
is_comparison b.LessEqual = true
is_comparison b.GreaterEqual = true
is_comparison _ = false

abbrev pub signed_test : BinaryOp → ℤ → ℤ → Option Bool
signed_test b.Equal a c = Some (int_eq a c)
signed_test b.NotEqual a c = Some (not (int_eq a c))
signed_test b.Less a c = Some (int_lt a c)
signed_test b.Greater a c = Some (int_lt c a)
signed_test b.LessEqual a c = Some (int_le a c)
signed_test b.GreaterEqual a c = Some (int_le c a)
signed_test _ a c = None

abbrev pub unsigned_test : BinaryOp → ℕ → ℕ → Option Bool
unsigned_test b.Equal a c = Some (nat_eq a c)
unsigned_test b.NotEqual a c = Some (not (nat_eq a c))
unsigned_test b.Less a c = Some (nat_lt a c)
unsigned_test b.Greater a c = Some (nat_lt c a)
unsigned_test b.LessEqual a c = Some (nat_le a c)
unsigned_test b.GreaterEqual a c = Some (nat_le c a)
unsigned_test _ a c = None

abbrev pub compared : BinaryOp → Operand → Operand → Operand
compared op (Signed a) (Signed c) = truth (from_both (signed_test op) a c)
compared op x y = truth (from_both (unsigned_test op) (as_unsigned x) (as_unsigned y))

-- arithmetic
abbrev pub computed : BinaryOp → Operand → Operand → Operand
computed op (Signed a) (Signed c) = Signed (from_both (signed_result op) a c)
computed op x y = Unsigned (from_both (unsigned_result op) (as_unsigned x) (as_unsigned y))

-- a shift has the type of its left operand, and that times a power of two, or divided by it and rounded down (C99 6.5.7, which
-- leaves open what becomes of a negative number)
abbrev pub shifted_left : Operand → Option ℕ → Operand
shifted_left (Signed a) count = Signed (from a (λ n. from count (λ k. held (n *ℤ pos (2 ^ k)))))
shifted_left (Unsigned a) count = Unsigned (from_both (λ n k. Some (n * 2 ^ k % 2 ^ 64)) a count)

abbrev pub shifted_right : Operand → Option ℕ → Operand
shifted_right (Signed a) count = Signed (from a (λ n. from count (λ k. Some (int_shr n k))))
shifted_right (Unsigned a) count = Unsigned (from_both (λ n k. Some (n / 2 ^ k)) a count)

-- `&&` and `||` evaluate their right operand only where the left one does not decide (C99 6.5.13, 6.5.14)
abbrev pub and_also : Option Bool → Option Bool → Option Bool
and_also None right = None
and_also (Some false) right = Some false
and_also (Some true) right = right

abbrev pub or_else : Option Bool → Option Bool → Option Bool
or_else None right = None
or_else (Some true) right = Some true
or_else (Some false) right = right

-- an operator between two operands
unfoldable pub binary : BinaryOp → Operand → Operand → Operand
binary b.And x y = truth (and_also (is_true x) (is_true y))
binary b.Or x y = truth (or_else (is_true x) (is_true y))
binary b.ShiftLeft x y = shifted_left x (places y)
binary b.ShiftRight x y = shifted_right x (places y)
binary op x y = if is_comparison op then compared op x y else computed op x y

-- an operator before its operand; `&` and `*` have no place in a condition
unfoldable pub unary : UnaryOp → Operand → Option Operand
unary u.Plus x = Some x
unary u.Minus (Signed a) = Some (Signed (from a (λ n. held (neg_ℤ n))))
unary u.Minus (Unsigned a) = Some (Unsigned (option_map (λ n. (2 ^ 64 - n) % 2 ^ 64) a))
unary u.Complement (Signed a) = Some (Signed (option_map (int_bit_not w64) a))
unary u.Complement (Unsigned a) = Some (Unsigned (option_map (bit_not w64) a))
unary u.Not x = Some (truth (option_map not (is_true x)))
unary _ x = None

-- `?:` evaluates one of its last two operands, and converts it to their common type (C99 6.5.15)
abbrev pub chosen : {A : Type 0} → Option Bool → Option A → Option A → Option A
chosen None a c = None
chosen (Some true) a c = a
chosen (Some false) a c = c

unfoldable pub choice : Operand → Operand → Operand → Operand
choice test (Signed a) (Signed c) = Signed (chosen (is_true test) a c)
choice test x y = Unsigned (chosen (is_true test) (as_unsigned x) (as_unsigned y))
