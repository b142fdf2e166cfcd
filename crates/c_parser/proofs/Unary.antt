-- Which expressions of the code are unary, by their trees.
use Rattle.std.proofs.Common.{◌≡◌, ℕ, zero, suc, nat_le, false, refl}
use Rattle.c_tree.specs.Operators.{operand_level}
use Rattle.c_tree.specs.declared.operator.BinaryOp.{BinaryOp}
use Rattle.c_tree.specs.declared.operator.BinaryOp.TheVariants as b
use Rattle.c_tree.specs.Grammar.{form_home}
use Rattle.c_tree.specs.View.{expr_tree}
use Rattle.c_tree.specs.declared.tree.ExprKind.{ExprKind}
use Rattle.c_tree.specs.declared.tree.ExprKind.TheVariants as e
use Rattle.grammar_reading.specs.Expressions.{is_unary}
use Rattle.c_parser.specs.Nodes.{is_unary_kind}

binary_is_loose : (op : BinaryOp) → nat_le (suc (operand_level op)) (suc zero) ≡ false
unfolding operand_level
binary_is_loose b.Or = refl
binary_is_loose b.And = refl
binary_is_loose b.BitOr = refl
binary_is_loose b.BitXor = refl
binary_is_loose b.BitAnd = refl
binary_is_loose b.Equal = refl
binary_is_loose b.NotEqual = refl
binary_is_loose b.Less = refl
binary_is_loose b.Greater = refl
binary_is_loose b.LessEqual = refl
binary_is_loose b.GreaterEqual = refl
binary_is_loose b.ShiftLeft = refl
binary_is_loose b.ShiftRight = refl
binary_is_loose b.Add = refl
binary_is_loose b.Subtract = refl
binary_is_loose b.Multiply = refl
binary_is_loose b.Divide = refl
binary_is_loose b.Remainder = refl

pub kind_is_unary : (kind : ExprKind) (line : ℕ) → is_unary (expr_tree kind line) ≡ is_unary_kind kind
unfolding expr_tree form_home
kind_is_unary (e.Name bytes) line = refl
kind_is_unary (e.Int bytes) line = refl
kind_is_unary (e.Char bytes) line = refl
kind_is_unary (e.Str parts) line = refl
kind_is_unary (e.Paren' p at kind) line = refl
kind_is_unary (e.Index' p at kind q at2 kind2) line = refl
kind_is_unary (e.Call' p at kind shape arguments) line = refl
kind_is_unary (e.Dot' p at kind name) line = refl
kind_is_unary (e.Arrow' p at kind name) line = refl
kind_is_unary (e.PostInc' p at kind) line = refl
kind_is_unary (e.PostDec' p at kind) line = refl
kind_is_unary (e.PreInc' p at kind) line = refl
kind_is_unary (e.PreDec' p at kind) line = refl
kind_is_unary (e.Unary' op p at kind) line = refl
kind_is_unary (e.SizeofExpr' p at kind) line = refl
kind_is_unary (e.SizeofType' p at at2 shape words declarator) line = refl
kind_is_unary (e.Cast' p at at2 shape words declarator q at3 kind) line = refl
kind_is_unary (e.Binary' op p at kind q at2 kind2) line = binary_is_loose op
kind_is_unary (e.Cond' p at kind q at2 kind2 r at3 kind3) line = refl
kind_is_unary (e.Assign' op p at kind q at2 kind2) line = refl
kind_is_unary (e.Comma' p at kind q at2 kind2) line = refl
