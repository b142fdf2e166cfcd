-- The rules of the operators (C99 6.5): from operands whose types are known, the expression, or why it is refused.
use Rattle.std.specs.Prelude.{ℕ, ℤ, pos, Bool, true, false, not, ◌&&◌, ◌||◌, cond, int_lt, int_le, Option, Some, None, Ok}
use Rattle.std.specs.Ordering.{int_eq}
use Rattle.hs_base.specs.Arithmetic.{and_of, complement_of, difference_of, left_shift_of, negation_of, or_of, product_of, quotient_of, remainder_of, right_shift_of, sum_of, xor_of}
use Rattle.c_types.specs.declared.types.IntType.{IntType}
use Rattle.c_types.specs.declared.types.IntType.TheVariants as i
use Rattle.c_types.specs.Types.{PlainType, Int, Pointer}
use Rattle.c_types.specs.TagTable.{TagTable}
use Rattle.c_tree.specs.declared.operator.UnaryOp.{UnaryOp}
use Rattle.c_tree.specs.declared.operator.UnaryOp.TheVariants as u
use Rattle.c_tree.specs.declared.operator.BinaryOp.{BinaryOp}
use Rattle.c_tree.specs.declared.operator.BinaryOp.TheVariants as b
use Rattle.c_decls.specs.declared.constant.Constant.{Constant}
use Rattle.c_decls.specs.declared.refusal.TypeKind.{TypeKind}
use Rattle.c_decls.specs.declared.refusal.TypeKind.TheVariants.{Operands, NotLvalue, Incomplete, PointerAndInteger}
use Rattle.c_decls.specs.IntegerTypes.{promoted, common_type}
use Rattle.c_decls.specs.Constants.{typed, on_common, on_promoted, quotient_on_common, shifted, compared}
use Rattle.c_decls.specs.Refusals.{Checked, refused, unless}
use Rattle.c_decls.specs.declared.typed.Folded.TheVariants.{Varies, Traps, Is}
use Rattle.c_decls.specs.declared.typed.Folded.{Folded}
use Rattle.c_decls.specs.Typed.{PlainTyped, place, value, integer, int, Operand, Number, PointerTo, Neither, operand, same, is_void, is_scalar, has_no_size, is_null_constant}

-- values

-- the value of a result
abbrev pub folded_of : Option Constant → Folded
folded_of None = Traps
folded_of (Some c) = Is c.value

-- an operator on one constant
abbrev pub fold_one : (ℤ → Folded) → Folded → Folded
fold_one f (Is m) = f m
fold_one f other = other

-- an operator on two constants: an operand that is not constant decides before one that traps
abbrev pub fold_two : (ℤ → ℤ → Folded) → Folded → Folded → Folded
fold_two f Varies second = Varies
fold_two f Traps Varies = Varies
fold_two f Traps second = Traps
fold_two f (Is m) Varies = Varies
fold_two f (Is m) Traps = Traps
fold_two f (Is m) (Is n) = f m n

-- what is chosen by a constant: an operand that is not constant decides, whether it is evaluated or not
abbrev pub chosen : Folded → Folded → Folded → Folded
chosen Varies then_it else_it = Varies
chosen test Varies else_it = Varies
chosen test then_it Varies = Varies
chosen Traps then_it else_it = Traps
chosen (Is n) then_it else_it = cond (int_eq n (pos 0)) else_it then_it

-- 1 or 0 by a constant
abbrev pub truth_of : Folded → Folded
truth_of folded = fold_one (λ n. Is (cond (int_eq n (pos 0)) (pos 0) (pos 1))) folded

-- the result of an operator on constants; `&&` and `||` are not among them
abbrev pub calculated : BinaryOp → Constant → Constant → Option Constant
calculated b.BitOr x y = Some (on_common or_of x y)
calculated b.BitXor x y = Some (on_common xor_of x y)
calculated b.BitAnd x y = Some (on_common and_of x y)
calculated b.Equal x y = Some (compared int_eq x y)
calculated b.NotEqual x y = Some (compared (λ m n. not (int_eq m n)) x y)
calculated b.Less x y = Some (compared int_lt x y)
calculated b.Greater x y = Some (compared (λ m n. int_lt n m) x y)
calculated b.LessEqual x y = Some (compared int_le x y)
calculated b.GreaterEqual x y = Some (compared (λ m n. int_le n m) x y)
calculated b.ShiftLeft x y = shifted left_shift_of x y
calculated b.ShiftRight x y = shifted right_shift_of x y
calculated b.Add x y = Some (on_common sum_of x y)
calculated b.Subtract x y = Some (on_common difference_of x y)
calculated b.Multiply x y = Some (on_common product_of x y)
calculated b.Divide x y = quotient_on_common quotient_of x y
calculated b.Remainder x y = quotient_on_common remainder_of x y
calculated b.Or x y = None
calculated b.And x y = None

-- the type of an operator's result on integers
abbrev pub result_type : BinaryOp → IntType → IntType → IntType
result_type b.BitOr s t = common_type s t
result_type b.BitXor s t = common_type s t
result_type b.BitAnd s t = common_type s t
result_type b.ShiftLeft s t = promoted s
result_type b.ShiftRight s t = promoted s
result_type b.Add s t = common_type s t
result_type b.Subtract s t = common_type s t
result_type b.Multiply s t = common_type s t
result_type b.Divide s t = common_type s t
result_type b.Remainder s t = common_type s t
result_type _ s t = i.Int

-- an operator on two integers
abbrev pub on_integers : BinaryOp → IntType → IntType → Folded → Folded → PlainTyped
on_integers op s t first second =
    integer (result_type op s t) (fold_two (λ m n. folded_of (calculated op (typed s m) (typed t n))) first second)

-- pointers

-- why a pointer to a type does not move: the type is void, or it has no size (C99 6.5.6)
abbrev pub immovable : TagTable → PlainType → Option TypeKind
immovable tags target = cond (is_void target) (Some Operands) (cond (has_no_size tags target) (Some Incomplete) None)

-- an answer, unless there is a reason against it
abbrev pub barred : {A : Type 0} → Option TypeKind → ℕ → Checked A → Checked A
barred None line answer = answer
barred (Some kind) line answer = refused kind line

-- an answer that moves a pointer
abbrev pub moving : ℕ → TagTable → PlainType → PlainTyped → Checked PlainTyped
moving line tags target answer = barred (immovable tags target) line (Ok answer)

-- a pointer beside an integer: it must be a null pointer constant
abbrev pub beside_pointer : ℕ → PlainTyped → Checked PlainTyped → Checked PlainTyped
beside_pointer line e answer = cond (is_null_constant e) answer (refused PointerAndInteger line)

-- whether two pointers may be compared for being equal (C99 6.5.9)
abbrev pub may_be_equal : PlainType → PlainType → Bool
may_be_equal s t = same s t || is_void s || is_void t

-- operators

-- the number of unary `+`, `-`, `~` and `!` on a constant (C99 6.5.3.3)
abbrev pub unary_number : UnaryOp → Constant → ℤ
unary_number u.Minus c = (on_promoted negation_of c).value
unary_number u.Complement c = (on_promoted complement_of c).value
unary_number u.Not c = cond (int_eq c.value (pos 0)) (pos 1) (pos 0)
unary_number _ c = c.value

-- the type of their result
abbrev pub unary_type : UnaryOp → IntType → IntType
unary_type u.Not ty = i.Int
unary_type _ ty = promoted ty

abbrev pub unary_on_integer : UnaryOp → IntType → Folded → PlainTyped
unary_on_integer op ty folded = integer (unary_type op ty) (fold_one (λ n. Is (unary_number op (typed ty n))) folded)

-- what a pointer points to (C99 6.5.3.2)
abbrev pub place_behind : ℕ → Operand → Checked PlainTyped
place_behind line (PointerTo target) = Ok (place target)
place_behind line _ = refused Operands line

-- `!` and `*` on a pointer
abbrev pub unary_on_pointer : ℕ → UnaryOp → PlainType → Checked PlainTyped
unary_on_pointer line u.Not target = Ok int
unary_on_pointer line u.Deref target = Ok (place target)
unary_on_pointer line _ target = refused Operands line

-- an operator before a value; `&` is not among them
abbrev pub unary_of : ℕ → UnaryOp → PlainTyped → Operand → Checked PlainTyped
unary_of line u.Deref e (Number ty) = refused Operands line
unary_of line op e (Number ty) = Ok (unary_on_integer op ty e.folded)
unary_of line op e (PointerTo target) = unary_on_pointer line op target
unary_of line op e _ = refused Operands line

abbrev pub unary : ℕ → UnaryOp → TagTable → PlainTyped → Checked PlainTyped
unary line op tags e = unary_of line op e (operand e.type)

-- `&` of a place (C99 6.5.3.2)
abbrev pub address : ℕ → PlainTyped → Checked PlainTyped
address line e = cond e.is_place (Ok (value (Pointer e.type))) (refused NotLvalue line)

-- a sum (C99 6.5.6)
abbrev pub sum_types : ℕ → TagTable → PlainTyped → PlainTyped → Operand → Operand → Checked PlainTyped
sum_types line tags x y (Number s) (Number t) = Ok (on_integers b.Add s t x.folded y.folded)
sum_types line tags x y (PointerTo target) (Number t) = moving line tags target (value x.type)
sum_types line tags x y (Number s) (PointerTo target) = moving line tags target (value y.type)
sum_types line tags x y _ _ = refused Operands line

-- a difference (C99 6.5.6)
abbrev pub difference_types : ℕ → TagTable → PlainTyped → PlainTyped → Operand → Operand → Checked PlainTyped
difference_types line tags x y (Number s) (Number t) = Ok (on_integers b.Subtract s t x.folded y.folded)
difference_types line tags x y (PointerTo target) (Number t) = moving line tags target (value x.type)
difference_types line tags x y (PointerTo target) (PointerTo other) =
    unless (not (same target other)) Operands line (moving line tags target int)
difference_types line tags x y _ _ = refused Operands line

-- `<`, `>`, `<=` and `>=` (C99 6.5.8)
abbrev pub order_types : BinaryOp → ℕ → PlainTyped → PlainTyped → Operand → Operand → Checked PlainTyped
order_types op line x y (Number s) (Number t) = Ok (on_integers op s t x.folded y.folded)
order_types op line x y (PointerTo target) (PointerTo other) = unless (not (same target other)) Operands line (Ok int)
order_types op line x y (PointerTo target) (Number t) = beside_pointer line y (refused Operands line)
order_types op line x y (Number s) (PointerTo other) = beside_pointer line x (refused Operands line)
order_types op line x y _ _ = refused Operands line

-- `==` and `!=` (C99 6.5.9)
abbrev pub equal_types : BinaryOp → ℕ → PlainTyped → PlainTyped → Operand → Operand → Checked PlainTyped
equal_types op line x y (Number s) (Number t) = Ok (on_integers op s t x.folded y.folded)
equal_types op line x y (PointerTo target) (PointerTo other) =
    unless (not (may_be_equal target other)) Operands line (Ok int)
equal_types op line x y (PointerTo target) (Number t) = beside_pointer line y (Ok int)
equal_types op line x y (Number s) (PointerTo other) = beside_pointer line x (Ok int)
equal_types op line x y _ _ = refused Operands line

-- the operators that take integers alone (C99 6.5.5, 6.5.7, 6.5.10 to 6.5.12)
abbrev pub integer_types : BinaryOp → ℕ → PlainTyped → PlainTyped → Operand → Operand → Checked PlainTyped
integer_types op line x y (Number s) (Number t) = Ok (on_integers op s t x.folded y.folded)
integer_types op line x y _ _ = refused Operands line

-- `&&` and `||` (C99 6.5.13, 6.5.14): the right operand is evaluated only where it is needed
abbrev pub logical : ℕ → Folded → PlainTyped → PlainTyped → Checked PlainTyped
logical line folded x y = unless (not (is_scalar x.type && is_scalar y.type)) Operands line (Ok (integer i.Int folded))

-- an operator between two values
abbrev pub binary : ℕ → BinaryOp → TagTable → PlainTyped → PlainTyped → Checked PlainTyped
binary line b.Or tags x y = logical line (chosen x.folded (Is (pos 1)) (truth_of y.folded)) x y
binary line b.And tags x y = logical line (chosen x.folded (truth_of y.folded) (Is (pos 0))) x y
binary line b.Add tags x y = sum_types line tags x y (operand x.type) (operand y.type)
binary line b.Subtract tags x y = difference_types line tags x y (operand x.type) (operand y.type)
binary line b.Less tags x y = order_types b.Less line x y (operand x.type) (operand y.type)
binary line b.Greater tags x y = order_types b.Greater line x y (operand x.type) (operand y.type)
binary line b.LessEqual tags x y = order_types b.LessEqual line x y (operand x.type) (operand y.type)
binary line b.GreaterEqual tags x y = order_types b.GreaterEqual line x y (operand x.type) (operand y.type)
binary line b.Equal tags x y = equal_types b.Equal line x y (operand x.type) (operand y.type)
binary line b.NotEqual tags x y = equal_types b.NotEqual line x y (operand x.type) (operand y.type)
binary line op tags x y = integer_types op line x y (operand x.type) (operand y.type)
