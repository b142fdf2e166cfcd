-- What is known of an expression: its type, whether it is a place, and its value where it is constant (C99 6.3, 6.6).
use Rattle.std.specs.Prelude.{ℕ, ℤ, pos, zero, Bool, true, false, not, ◌&&◌, ◌||◌, nat_eq, is_none, cond, Ok}
use Rattle.c_types.specs.declared.types.IntType.{IntType}
use Rattle.c_types.specs.declared.types.IntType.TheVariants as i
use Rattle.c_types.specs.Types.{plain, PlainType, PlainTypes, Void, Int, Pointer, Array, Struct, Union, Function, none, first}
use Rattle.c_types.specs.TagTable.{TagTable, size_in}
use Rattle.c_decls.specs.declared.constant.Constant.{Constant}
use Rattle.c_decls.specs.declared.typed.Typed.{Typed}
use Rattle.c_decls.specs.declared.typed.Operand.{Operand as CodeOperand}
use Rattle.c_decls.specs.declared.typed.Operand.TheVariants as o
use Rattle.c_decls.specs.declared.typed.Folded.{Folded}
use Rattle.c_decls.specs.declared.typed.Folded.TheVariants.{Varies, Is}
use Rattle.c_decls.specs.declared.refusal.TypeKind.TheVariants.{Operands, Incomplete}
use Rattle.c_decls.specs.Constants.{typed}
use Rattle.c_decls.specs.Refusals.{Checked, refused, unless}

-- an expression: its type, whether it is a place, its value, and whether it is `NULL`, or an integer constant
-- expression of value 0 that is cast to `void *`
pub record PlainTyped : Type 0 where
  pub type : PlainType
  pub is_place : Bool
  pub folded : Folded
  pub is_null : Bool

-- how an operator sees the type of a value
pub data Operand : Type 0 where
  Number : (ty : IntType) → Operand
  PointerTo : (target : PlainType) → Operand
  Neither : Operand

abbrev pub operand : PlainType → Operand
operand (Int ty) = Number ty
operand (Pointer target) = PointerTo target
operand _ = Neither

-- a place, and a value that is not constant
abbrev pub place : PlainType → PlainTyped
place type = record { type = type; is_place = true; folded = Varies; is_null = false }

abbrev pub value : PlainType → PlainTyped
value type = record { type = type; is_place = false; folded = Varies; is_null = false }

-- an integer with its value
abbrev pub integer : IntType → Folded → PlainTyped
integer ty folded = record { type = Int ty; is_place = false; folded = folded; is_null = false }

abbrev pub constant : Constant → PlainTyped
constant c = integer c.ty (Is c.value)

abbrev pub int : PlainTyped
int = value (Int i.Int)

-- the place of an integer type in the list of all
abbrev pub number_of : IntType → ℕ
number_of i.Char = 0
number_of i.SChar = 1
number_of i.UChar = 2
number_of i.Short = 3
number_of i.UShort = 4
number_of i.Int = 5
number_of i.UInt = 6
number_of i.Long = 7
number_of i.ULong = 8
number_of i.LongLong = 9
number_of i.ULongLong = 10

unfoldable mutual
  -- whether two types are the same
  pub same : PlainType → PlainType → Bool
  same Void Void = true
  same (Int a) (Int b) = nat_eq (number_of a) (number_of b)
  same (Pointer a) (Pointer b) = same a b
  same (Array a m) (Array b n) = same a b && nat_eq m n
  same (Struct a) (Struct b) = nat_eq a b
  same (Union a) (Union b) = nat_eq a b
  same (Function a params) (Function b others) = same a b && all_same params others
  same _ _ = false

  -- whether two lists of types are the same
  pub all_same : PlainTypes → PlainTypes → Bool
  all_same none none = true
  all_same (first a params) (first b others) = same a b && all_same params others
  all_same _ _ = false

abbrev pub is_void : PlainType → Bool
is_void Void = true
is_void _ = false

-- a struct or a union
abbrev pub is_record : PlainType → Bool
is_record (Struct tag) = true
is_record (Union tag) = true
is_record _ = false

abbrev pub is_array : PlainType → Bool
is_array (Array element length) = true
is_array _ = false

abbrev pub is_function : PlainType → Bool
is_function (Function answer params) = true
is_function _ = false

-- an integer or a pointer
abbrev pub is_scalar : PlainType → Bool
is_scalar (Int ty) = true
is_scalar (Pointer target) = true
is_scalar _ = false

-- a type of which no object can be: incomplete, void or a function
abbrev pub has_no_size : TagTable → PlainType → Bool
has_no_size tags type = is_none (size_in tags type)

abbrev pub is_zero : PlainType → Folded → Bool
is_zero (Int ty) (Is (pos zero)) = true
is_zero _ _ = false

-- a null pointer constant (C99 6.3.2.3)
abbrev pub is_null_constant : PlainTyped → Bool
is_null_constant e = e.is_null || is_zero e.type e.folded

-- the value that a place of a type holds; an array gives the address of its first element (C99 6.3.2.1)
abbrev pub held : ℕ → TagTable → PlainType → Checked PlainTyped
held line tags Void = refused Incomplete line
held line tags (Int ty) = Ok (value (Int ty))
held line tags (Pointer target) = Ok (value (Pointer target))
held line tags (Array element length) = Ok (value (Pointer element))
held line tags (Struct tag) = cond (has_no_size tags (Struct tag)) (refused Incomplete line) (refused Operands line)
held line tags (Union tag) = cond (has_no_size tags (Union tag)) (refused Incomplete line) (refused Operands line)
held line tags (Function answer params) = refused Operands line

-- an expression that is evaluated: what a place holds, or the expression itself
abbrev pub read : ℕ → TagTable → PlainTyped → Checked PlainTyped
read line tags e = cond e.is_place (held line tags e.type) (Ok e)

-- a struct or a union that is no place is an assignment, which has no value
abbrev pub has_no_value : PlainTyped → Bool
has_no_value e = is_record e.type && not e.is_place

-- an expression where a value is wanted
abbrev pub wanted_value : ℕ → TagTable → PlainTyped → Checked PlainTyped
wanted_value line tags e = unless (has_no_value e) Operands line (read line tags e)

-- an expression, without where its type lies in memory
abbrev pub plain_typed : Typed → PlainTyped
plain_typed e = record { type = plain e.ty; is_place = e.is_place; folded = e.folded; is_null = e.is_null }

abbrev pub plain_operand : CodeOperand → Operand
plain_operand (o.Number ty) = Number ty
plain_operand (o.PointerTo target) = PointerTo (plain target.now)
plain_operand o.Neither = Neither
