-- The forms of operators that are told apart by their operator, on trees.
use Rattle.std.specs.Prelude.{ℕ, Bool, false, Ok}
use Rattle.c_types.specs.Types.{PlainType, Void}
use Rattle.c_tree.specs.declared.operator.UnaryOp.{UnaryOp}
use Rattle.c_tree.specs.declared.operator.BinaryOp.{BinaryOp}
use Rattle.c_tree.specs.declared.operator.AssignOp.{AssignOp}
use Rattle.c_tree.specs.Tree.{Tree}
use Rattle.c_decls.specs.Refusals.{then}
use Rattle.c_decls.specs.Callees.{Callee}
use Rattle.elaboration.specs.Context.{Context, With}
use Rattle.elaboration.specs.Conversions.{Found, unused}
use Rattle.elaboration.specs.Rules.{applied, left_operand, between}
use Rattle.elaboration.specs.Assignments.{old_value, changed_by, stepped}
use Rattle.elaboration.specs.Expressions.{found, value_of, changing, cast_operand, comma_answer, callee}

-- an operator before a value, other than `&`
abbrev pub before_value : ℕ → UnaryOp → Tree → Context → With Found
before_value line op e c = then (value_of e Void c) (λ d. applied line op e d.0 d.1)

-- an operator between two values, other than `&&` and `||`
abbrev pub between_values : ℕ → BinaryOp → Tree → Tree → Context → With Found
between_values line op e g c =
    then (value_of e Void c) (λ d. let begun = left_operand op c.code g d in then (value_of g Void begun.0) (λ r. between line op begun.0.code r.0 begun.1 r.1))

-- an operator with `=`
abbrev pub changed_place : ℕ → AssignOp → Tree → Tree → Context → With Found
changed_place line op e g c =
    then (changing e (found e Void c)) (λ d. let old = old_value line d in then (value_of g Void old.0) (λ r. changed_by line op false d.1 old.1 r))

-- an operand whose value is not used, wanted as a type
abbrev pub unused_value : Tree → PlainType → Context → With Found
unused_value e wanted c = unused e (found e wanted c)

-- an operand that is read and written
abbrev pub changing_place : Tree → Context → With Found
changing_place e c = changing e (found e Void c)

-- `++` and `--`, before or behind their operand
abbrev pub stepped_place : ℕ → AssignOp → Bool → Tree → Context → With Found
stepped_place line op keeps_old e c = then (changing_place e c) (λ d. stepped line op keeps_old d)

-- the operand of a cast to a type
abbrev pub cast_value : PlainType → Tree → Context → With Found
cast_value type e c = cast_operand type e (found e type c)

-- a comma: the value of its left operand is not used
abbrev pub comma_values : Tree → Tree → Context → With Found
comma_values e g c =
    then (unused_value e Void c) (λ d. then (unused_value g Void d.0) (λ r. Ok (comma_answer r)))

-- what a tree calls
abbrev pub callee_of : Tree → Context → With Callee
callee_of e c = callee e c (found e Void c)
