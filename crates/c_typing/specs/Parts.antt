-- What walks are made of.
use Rattle.std.specs.Prelude.{Bool, true, false, cond, List, ◌++◌, Ok}
use Rattle.c_tree.specs.declared.operator.AssignOp.{AssignOp}
use Rattle.c_tree.specs.declared.operator.AssignOp.TheVariants as a
use Rattle.c_tree.specs.Tree.{Tree}
use Rattle.c_decls.specs.Refusals.{Checked, then}
use Rattle.c_decls.specs.TypeNames.{Context}
use Rattle.c_decls.specs.Expressions.{Found, unused, wanted}

-- a list behind another one
abbrev pub behind : {A : Type 0} → List A → Checked (Context × List A) → Checked (Context × List A)
behind before answer = then answer (λ more. Ok (more.0, before ++ more.1))

-- whether an operator is `=`
abbrev pub is_plain : AssignOp → Bool
is_plain a.Plain = true
is_plain _ = false

-- the operand of a cast, to void or to a type of values
abbrev pub operand_of : Bool → Tree → Found → Found
operand_of to_void tree answer = cond to_void (unused tree answer) (wanted tree answer)
