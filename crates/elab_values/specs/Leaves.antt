-- Names, constants and literals, and what stands before another operand, from the parts of the code.
use Rattle.std.specs.Prelude.{ℕ, List}
use Rattle.c_types.specs.Types.{PlainType}
use Rattle.c_tree.specs.declared.tree.Expr.{Expr}
use Rattle.c_tree.specs.declared.operator.BinaryOp.{BinaryOp}
use Rattle.c_tree.specs.Tree.{Tree}
use Rattle.c_tree.specs.View.{literal_leaves}
use Rattle.c_tree.specs.StatementView.{expr_view}
use Rattle.c_decls.specs.declared.typed.Typed.{Typed}
use Rattle.c_decls.specs.Typed.{plain_typed, constant}
use Rattle.c_decls.specs.ScopeList.{found as declaration}
use Rattle.c_decls.specs.Expressions.{int_constant, char_constant, joined}
use Rattle.elaboration.specs.Context.{Context, With}
use Rattle.elaboration.specs.Conversions.{Found}
use Rattle.elaboration.specs.Rules.{constant_found, left_operand, choice_ahead, ahead}
use Rattle.elaboration.specs.Expressions.{name_answer, literal_answer}
use Rattle.elab_base.specs.declared.code.Mark.{Mark}
use Rattle.elab_base.specs.Marks.{cut}

-- a name, as it is declared
abbrev pub name_value : ℕ → List ℕ → Context → With Found
name_value line name c = name_answer line name (declaration c.scopes name) c

-- an integer constant, and a character constant
abbrev pub integer_found : List ℕ → Found
integer_found bytes = constant_found (constant (int_constant bytes))

abbrev pub character_found : List ℕ → Found
character_found bytes = constant_found (constant (char_constant bytes))

-- string literals that stand beside each other
abbrev pub literal_value : ℕ → List (List ℕ) → Context → With Found
literal_value line parts c = literal_answer line (joined (literal_leaves parts)) c

-- a left operand in front of its right one; the mark stands in front of its code
abbrev pub left_of : BinaryOp → Mark → Tree → Context × Found → Context × Found
left_of op before right d = left_operand op (cut before d.0.code) right d

-- the type of a choice between two values, before its last part
abbrev pub type_before : ℕ → Typed → Typed → Expr → Context → PlainType
type_before line test x last c = choice_ahead line (plain_typed test) (plain_typed x) (ahead (expr_view last) c)
