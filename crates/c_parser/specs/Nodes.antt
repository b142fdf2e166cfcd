-- What the code asks of trees that were read.
use Rattle.std.specs.Prelude.{Bool, true, false}
use Rattle.c_tree.specs.declared.tree.ExprKind.{ExprKind}
use Rattle.c_tree.specs.declared.tree.ExprKind.TheVariants as e

-- whether an expression of the code is a unary one, or a tighter one
abbrev pub is_unary_kind : ExprKind → Bool
is_unary_kind (e.Cast' p at at2 shape words declarator q at3 kind) = false
is_unary_kind (e.Binary' op p at kind q at2 kind2) = false
is_unary_kind (e.Cond' p at kind q at2 kind2 r at3 kind3) = false
is_unary_kind (e.Assign' op p at kind q at2 kind2) = false
is_unary_kind (e.Comma' p at kind q at2 kind2) = false
is_unary_kind _ = true
