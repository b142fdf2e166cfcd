-- The operators: what they do with operands that are in hand (C99 6.5).
use Rattle.std.specs.Prelude.{ℕ, ◌+◌, ◌/◌, ◌%◌, ◌==◌, ℤ, pos, neg_ℤ, ◌+ℤ◌, ◌*ℤ◌, Bool, true, false, ◌&&◌, int_le, cond, bytes_eq, List, length, slice_get, Option, Some, None, option_map, unwrap_or}
use Rattle.std.specs.List.{find}
use Rattle.std.specs.Ordering.{int_eq}
use Rattle.c_types.specs.declared.types.IntType.{IntType}
use Rattle.c_types.specs.Types.{PlainType, Struct, Union, kind_of}
use Rattle.c_types.specs.TagTable.{TagTable, PlainMember, members_in}
use Rattle.core_tree.specs.declared.statements.Atom.{Atom}
use Rattle.core_tree.specs.declared.statements.Atom.TheVariants as atom
use Rattle.core_tree.specs.declared.statements.UnOp.TheVariants as un
use Rattle.core_tree.specs.declared.statements.BinOp.{BinOp}
use Rattle.core_tree.specs.declared.statements.BinOp.TheVariants as bin
use Rattle.core_tree.specs.declared.statements.CmpOp.{CmpOp}
use Rattle.core_tree.specs.declared.statements.CmpOp.TheVariants as cmp
use Rattle.core_tree.specs.declared.statements.StmKind.TheVariants.{Un, Bin, Cmp, Add, Sub, Off, Diff, Pcmp}
use Rattle.c_tree.specs.declared.operator.BinaryOp.{BinaryOp}
use Rattle.c_tree.specs.declared.operator.BinaryOp.TheVariants as b
use Rattle.c_tree.specs.declared.operator.AssignOp.{AssignOp}
use Rattle.c_tree.specs.declared.operator.AssignOp.TheVariants as a
use Rattle.c_tree.specs.declared.operator.UnaryOp.{UnaryOp}
use Rattle.c_tree.specs.declared.operator.UnaryOp.TheVariants as u
use Rattle.c_decls.specs.IntegerTypes.{promoted, common_type}
use Rattle.c_decls.specs.Typed.{PlainTyped, Operand, Number, PointerTo, operand}
use Rattle.c_decls.specs.TypeRules.{result_type}
use Rattle.c_decls.specs.declared.typed.Folded.{Folded}
use Rattle.c_decls.specs.declared.typed.Folded.TheVariants.{Is}
use Rattle.elaboration.specs.Context.{Code, Context, Variable, integer_by, pointer_by}
use Rattle.elaboration.specs.Conversions.{Found, Fixed, Unknown, Nowhere, Inside, convert_integer, atom_in, size_or_zero, forget}

-- how an operator on integers works: on operands of their common type, on operands that are promoted each by itself, or
-- by comparing operands of their common type; `&&` and `||` do none of these
pub data Working : Type 0 where
  Calculates : (op : BinOp) → Working
  Shifts : (op : BinOp) → Working
  Compares : (op : CmpOp) → Working
  Branches : Working

unfoldable pub working : BinaryOp → Working
working b.Or = Branches
working b.And = Branches
working b.BitOr = Calculates bin.Or
working b.BitXor = Calculates bin.Xor
working b.BitAnd = Calculates bin.And
working b.Equal = Compares cmp.Eq
working b.NotEqual = Compares cmp.Ne
working b.Less = Compares cmp.Lt
working b.Greater = Compares cmp.Gt
working b.LessEqual = Compares cmp.Le
working b.GreaterEqual = Compares cmp.Ge
working b.ShiftLeft = Shifts bin.Shl
working b.ShiftRight = Shifts bin.Shr
working b.Add = Calculates bin.Add
working b.Subtract = Calculates bin.Sub
working b.Multiply = Calculates bin.Mul
working b.Divide = Calculates bin.Div
working b.Remainder = Calculates bin.Rem

-- the operator of an operator with `=` (C99 6.5.16.2)
unfoldable pub operator_of : AssignOp → BinaryOp
operator_of a.Plain = b.Add
operator_of a.Multiply = b.Multiply
operator_of a.Divide = b.Divide
operator_of a.Remainder = b.Remainder
operator_of a.Add = b.Add
operator_of a.Subtract = b.Subtract
operator_of a.ShiftLeft = b.ShiftLeft
operator_of a.ShiftRight = b.ShiftRight
operator_of a.BitAnd = b.BitAnd
operator_of a.BitXor = b.BitXor
operator_of a.BitOr = b.BitOr

-- two integers converted to types of their own, the left one first
abbrev pub convert_both : ℕ → IntType → IntType → Atom → IntType → IntType → Atom → Context → Context × Atom × Atom
convert_both line to_left s x to_right t y c =
    let d = convert_integer line to_left s x c in
    let e = convert_integer line to_right t y d.0 in
    (e.0, d.1, e.1)

-- an operator on two integers (C99 6.5.5 to 6.5.12)
abbrev pub work : ℕ → Working → IntType → Atom → IntType → Atom → Context → Context × Atom
work line (Calculates op) s x t y c =
    let ty = common_type s t in
    let d = convert_both line ty s x ty t y c in
    integer_by line (λ r. Bin op (kind_of ty) r d.1 d.2) d.0
work line (Shifts op) s x t y c =
    let d = convert_both line (promoted s) s x (promoted t) t y c in
    integer_by line (λ r. Bin op (kind_of (promoted s)) r d.1 d.2) d.0
work line (Compares op) s x t y c =
    let ty = common_type s t in
    let d = convert_both line ty s x ty t y c in
    integer_by line (λ r. Cmp op r d.1 d.2) d.0
work line Branches s x t y c = (c, x)

abbrev pub on_integers : ℕ → BinaryOp → IntType → Atom → IntType → Atom → Context → Context × Atom
on_integers line op s x t y c = work line (working op) s x t y c

-- an operator before an integer: `+` promotes, `-` and `~` calculate (C99 6.5.3.3)
unfoldable pub before_integer : ℕ → UnaryOp → IntType → Atom → Context → Context × Atom
before_integer line u.Minus ty x c =
    let d = convert_integer line (promoted ty) ty x c in
    integer_by line (λ r. Un un.Neg (kind_of (promoted ty)) r d.1) d.0
before_integer line u.Complement ty x c =
    let d = convert_integer line (promoted ty) ty x c in
    integer_by line (λ r. Un un.Not (kind_of (promoted ty)) r d.1) d.0
before_integer line op ty x c = convert_integer line (promoted ty) ty x c

-- a pointer moved by an integer times the size of what it points to (C99 6.5.6)
unfoldable pub move_pointer : ℕ → BinaryOp → PlainType → Atom → Atom → Context → Context × Atom
move_pointer line b.Subtract target p n c = pointer_by line (λ r. Sub r p n (pos (size_or_zero c target))) c
move_pointer line op target p n c = pointer_by line (λ r. Add r p n (pos (size_or_zero c target))) c

-- two pointers: their difference, or a comparison (C99 6.5.6, 6.5.8, 6.5.9)
abbrev pub between_pointers : ℕ → Working → PlainType → Atom → Atom → Context → Context × Atom
between_pointers line (Compares op) target p q c = integer_by line (λ r. Pcmp op r p q) c
between_pointers line other target p q c = integer_by line (λ r. Diff r p q (pos (size_or_zero c target))) c

-- a pointer and an integer: a comparison with a null pointer constant, whose code is forgotten, or a moved pointer
abbrev pub pointer_beside : ℕ → BinaryOp → Working → Code → PlainType → Atom → Atom → Context → Context × Atom
pointer_beside line op (Compares test) before target p n c = integer_by line (λ r. Pcmp test r p atom.Null) (forget before c)
pointer_beside line op other before target p n c = move_pointer line op target p n c

-- an integer and a pointer: a comparison of a null pointer constant, whose code is forgotten already, or a moved pointer
abbrev pub beside_integer : ℕ → BinaryOp → Working → PlainType → Atom → Atom → Context → Context × Atom
beside_integer line op (Compares test) target n p c = integer_by line (λ r. Pcmp test r atom.Null p) c
beside_integer line op other target n p c = move_pointer line op target p n c

-- an operator between two values; before is the code in front of the right one's
abbrev pub combine : ℕ → BinaryOp → Code → Operand → Operand → Atom → Atom → Context → Context × Atom
combine line op before (Number s) (Number t) x y c = on_integers line op s x t y c
combine line op before (PointerTo target) (Number t) x y c = pointer_beside line op (working op) before target x y c
combine line op before (Number s) (PointerTo target) x y c = beside_integer line op (working op) target x y c
combine line op before (PointerTo target) (PointerTo other) x y c = between_pointers line (working op) target x y c
combine line op before left right x y c = (c, x)

abbrev pub combined : ℕ → BinaryOp → Code → Found → Found → Context → Context × Atom
combined line op before x y c = combine line op before (operand x.typed.type) (operand y.typed.type) (atom_in x) (atom_in y) c

-- an operator with `=` on what was read of a place: the result is converted back (C99 6.5.16.2)
abbrev pub change : ℕ → BinaryOp → Operand → Operand → Atom → Atom → Context → Context × Atom
change line op (Number s) (Number t) old y c =
    let d = on_integers line op s old t y c in convert_integer line s (result_type op s t) d.1 d.0
change line op (PointerTo target) (Number t) old y c = move_pointer line op target old y c
change line op left right old y c = (c, old)

abbrev pub changed_to : ℕ → BinaryOp → PlainType → Atom → PlainTyped → Atom → Context → Context × Atom
changed_to line op type old e y c = change line op (operand type) (operand e.type) old y c

-- fixed addresses

-- the size of a static: a variable, or a literal with its zero
abbrev pub variable_size : Option Variable → ℕ
variable_size None = 0
variable_size (Some v) = v.layout.size

abbrev pub literal_size : Option (List ℕ) → ℕ
literal_size None = 0
literal_size (Some bytes) = length bytes + 1

abbrev pub static_size : Context → ℕ → ℕ
static_size c static =
    cond (static % 2 == 0) (variable_size (slice_get c.variables (static / 2))) (literal_size (slice_get c.literals (static / 2)))

-- an address moved by a distance: it is not fixed where it leaves its object, or moves null (C99 6.6)
abbrev pub moved_by : Context → ℤ → Fixed → Fixed
moved_by c distance Unknown = Unknown
moved_by c distance Nowhere = cond (int_eq distance (pos 0)) Nowhere Unknown
moved_by c distance (Inside static offset) =
    let to = offset +ℤ distance in
    cond (int_le (pos 0) to && int_le to (pos (static_size c static))) (Inside static to) Unknown

-- moved by a constant times a size, up or down
abbrev pub moved_times : Context → Bool → ℕ → Folded → Fixed → Fixed
moved_times c down size (Is n) fixed =
    let distance = n *ℤ pos size in moved_by c (cond down (neg_ℤ distance) distance) fixed
moved_times c down size folded fixed = Unknown

-- the address that a sum or a difference of a pointer and an integer is
abbrev pub fixed_sum_of : Context → Bool → Operand → Operand → Found → Found → Fixed
fixed_sum_of c down (PointerTo target) (Number t) x y = moved_times c down (size_or_zero c target) y.typed.folded x.fixed
fixed_sum_of c down (Number s) (PointerTo target) x y = moved_times c down (size_or_zero c target) x.typed.folded y.fixed
fixed_sum_of c down left right x y = Unknown

unfoldable pub fixed_sum : Context → BinaryOp → Found → Found → Fixed
fixed_sum c b.Add x y = fixed_sum_of c false (operand x.typed.type) (operand y.typed.type) x y
fixed_sum c b.Subtract x y = fixed_sum_of c true (operand x.typed.type) (operand y.typed.type) x y
fixed_sum c op x y = Unknown

-- members

abbrev pub offset_among : List ℕ → Option (List PlainMember) → ℕ
offset_among name None = 0
offset_among name (Some members) =
    unwrap_or (option_map (λ (m : PlainMember). m.offset) (find (λ (m : PlainMember). bytes_eq name m.name) members)) 0

-- the offset of a member (C99 6.5.2.3)
unfoldable pub offset_of : TagTable → List ℕ → PlainType → ℕ
offset_of tags name (Struct tag) = offset_among name (members_in tags tag)
offset_of tags name (Union tag) = offset_among name (members_in tags tag)
offset_of tags name type = 0

-- the address of a member of an object at an address
abbrev pub member_address : ℕ → ℕ → Atom → Context → Context × Atom
member_address line offset p c = pointer_by line (λ r. Off r p (pos offset)) c
