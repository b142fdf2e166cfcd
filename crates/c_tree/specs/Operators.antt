-- Operators: their signs, and how loosely they bind (C99 6.5).
use Rattle.std.specs.Prelude.{ℕ, suc}
use Rattle.c_tree.specs.declared.operator.UnaryOp.{UnaryOp}
use Rattle.c_tree.specs.declared.operator.UnaryOp.TheVariants as u
use Rattle.c_tree.specs.declared.operator.BinaryOp.{BinaryOp}
use Rattle.c_tree.specs.declared.operator.BinaryOp.TheVariants as b
use Rattle.c_tree.specs.declared.operator.AssignOp.{AssignOp}
use Rattle.c_tree.specs.declared.operator.AssignOp.TheVariants as a
use Rattle.c_tree.specs.declared.operator.RecordSort.{RecordSort}
use Rattle.c_tree.specs.declared.operator.RecordSort.TheVariants as r
use Rattle.c_tree.specs.declared.word.Keyword.{Keyword}
use Rattle.c_tree.specs.declared.word.Keyword.TheVariants as k
use Rattle.c_tree.specs.declared.word.Sign.{Sign}
use Rattle.c_tree.specs.declared.word.Sign.TheVariants as s

-- the sign of an operator before its operand
unfoldable pub unary_sign : UnaryOp → Sign
unary_sign u.Address = s.Ampersand
unary_sign u.Deref = s.Star
unary_sign u.Plus = s.Plus
unary_sign u.Minus = s.Minus
unary_sign u.Complement = s.Tilde
unary_sign u.Not = s.Not

-- the sign of an operator between two operands
unfoldable pub binary_sign : BinaryOp → Sign
binary_sign b.Or = s.OrOr
binary_sign b.And = s.AndAnd
binary_sign b.BitOr = s.Bar
binary_sign b.BitXor = s.Caret
binary_sign b.BitAnd = s.Ampersand
binary_sign b.Equal = s.EqualEqual
binary_sign b.NotEqual = s.NotEqual
binary_sign b.Less = s.Less
binary_sign b.Greater = s.Greater
binary_sign b.LessEqual = s.LessEqual
binary_sign b.GreaterEqual = s.GreaterEqual
binary_sign b.ShiftLeft = s.ShiftLeft
binary_sign b.ShiftRight = s.ShiftRight
binary_sign b.Add = s.Plus
binary_sign b.Subtract = s.Minus
binary_sign b.Multiply = s.Star
binary_sign b.Divide = s.Slash
binary_sign b.Remainder = s.Percent

-- the sign of an operator of assignment
unfoldable pub assign_sign : AssignOp → Sign
assign_sign a.Plain = s.Equal
assign_sign a.Multiply = s.StarEqual
assign_sign a.Divide = s.SlashEqual
assign_sign a.Remainder = s.PercentEqual
assign_sign a.Add = s.PlusEqual
assign_sign a.Subtract = s.MinusEqual
assign_sign a.ShiftLeft = s.ShiftLeftEqual
assign_sign a.ShiftRight = s.ShiftRightEqual
assign_sign a.BitAnd = s.AmpersandEqual
assign_sign a.BitXor = s.CaretEqual
assign_sign a.BitOr = s.BarEqual

-- the keyword of a tag
unfoldable pub record_word : RecordSort → Keyword
record_word r.Struct = k.Struct
record_word r.Union = k.Union

-- Expressions have levels, from the tightest on: 0 a primary or postfix expression, 1 a unary expression, 2 a cast, 3 to
-- 12 the operators between two operands, 13 `?:`, 14 an assignment, 15 a comma. This is the level of an operator's right
-- operand; the operator's own is the next, so that each groups to the left.
unfoldable pub operand_level : BinaryOp → ℕ
operand_level b.Multiply = 2
operand_level b.Divide = 2
operand_level b.Remainder = 2
operand_level b.Add = 3
operand_level b.Subtract = 3
operand_level b.ShiftLeft = 4
operand_level b.ShiftRight = 4
operand_level b.Less = 5
operand_level b.Greater = 5
operand_level b.LessEqual = 5
operand_level b.GreaterEqual = 5
operand_level b.Equal = 6
operand_level b.NotEqual = 6
operand_level b.BitAnd = 7
operand_level b.BitXor = 8
operand_level b.BitOr = 9
operand_level b.And = 10
operand_level b.Or = 11

-- the level of an operator between two operands
abbrev pub binary_level : BinaryOp → ℕ
binary_level op = suc (operand_level op)
