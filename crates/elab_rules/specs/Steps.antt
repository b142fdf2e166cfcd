-- The rules of expressions on what the code has: its trees, types, marks and elaborated expressions are seen as the
-- definition has them.
use Rattle.std.specs.Prelude.{◌≡◌, ℕ, Bool, List, Option, Result, option_map, Ok, IfOk}
use Rattle.std.specs.Borrow.{Bor}
use Rattle.c_types.specs.Types.{plain}
use Rattle.c_types.specs.declared.types.CType.{CType}
use Rattle.c_types.specs.declared.types.IntType.{IntType}
use Rattle.core_tree.specs.declared.statements.Atom.{Atom}
use Rattle.c_tree.specs.declared.tree.Expr.{Expr}
use Rattle.c_tree.specs.declared.operator.UnaryOp.{UnaryOp}
use Rattle.c_tree.specs.declared.operator.BinaryOp.{BinaryOp}
use Rattle.c_tree.specs.declared.operator.AssignOp.{AssignOp}
use Rattle.c_tree.specs.StatementView.{expr_view}
use Rattle.c_decls.specs.declared.built_in.BuiltIn.{BuiltIn}
use Rattle.c_decls.specs.declared.named.Named.{Named}
use Rattle.c_decls.specs.declared.refusal.TypeError.{TypeError}
use Rattle.c_decls.specs.declared.typed.Typed.{Typed}
use Rattle.c_decls.specs.Expressions.{line_of}
use Rattle.c_decls.specs.Named.{PlainNamed, plain_named}
use Rattle.c_decls.specs.PlaceRules.{held_place}
use Rattle.c_decls.specs.Refusals.{Checked, then}
use Rattle.c_decls.specs.Typed.{operand, plain_typed}
use Rattle.elaboration.specs.Context.{Code, Context, With}
use Rattle.elaboration.specs.Conversions as plain
use Rattle.elaboration.specs.Conversions.{Unknown, found_as, atom_in, code_line}
use Rattle.elaboration.specs.Operations as operations
use Rattle.elaboration.specs.Operations.{working}
use Rattle.elaboration.specs.Rules as rules
use Rattle.elaboration.specs.Assignments as assignments
use Rattle.elaboration.specs.Calls.{Argument, atoms_of}
use Rattle.elaboration.specs.Calls as calls
use Rattle.elab_base.specs.declared.code.Mark.{Mark}
use Rattle.elab_base.specs.declared.found.Spot.{Spot}
use Rattle.elab_base.specs.declared.found.Fixed.{Fixed}
use Rattle.elab_base.specs.declared.found.Found.{Found}
use Rattle.elab_base.specs.Marks.{mark_of, cut}
use Rattle.elab_base.specs.PlainFound.{plain_spot, plain_fixed, plain_found}
use Rattle.elab_base.specs.Outcomes.{at, Finds, Locates}
use Rattle.elab_rules.specs.Behind.{Behind}
use Rattle.elab_rules.specs.Negated as negations
use Rattle.elab_rules.specs.PlainArguments.{called_of}
use Rattle.elab_rules.specs.PlainWorking.{plain_working}
use Rattle.elab_rules.specs.declared.calls.Called.{Called}
use Rattle.elab_rules.specs.declared.integers.Integer.{Integer}
use Rattle.elab_rules.specs.declared.working.Working.{Working}

-- operators

-- two integers converted to types of their own, and worked on
abbrev pub convert_both : ℕ → IntType → Integer → IntType → Integer → Context → Context × Atom × Atom
convert_both line to_left x to_right y c = operations.convert_both line to_left x.ty x.atom to_right y.ty y.atom c

abbrev pub work : ℕ → Working → Integer → Integer → Context → Context × Atom
work line by x y c = operations.work line (plain_working by) x.ty x.atom y.ty y.atom c

-- a pointer that is moved by an integer, two pointers, and a pointer beside an integer on either side
abbrev pub move_pointer : ℕ → BinaryOp → CType → Atom → Atom → Context → Context × Atom
move_pointer line op target pointer number c = operations.move_pointer line op (plain target) pointer number c

abbrev pub between_pointers : ℕ → Working → CType → Atom → Atom → Context → Context × Atom
between_pointers line by target left right c =
    operations.between_pointers line (plain_working by) (plain target) left right c

abbrev pub pointer_beside : ℕ → BinaryOp → Mark → CType → Atom → Atom → Context → Context × Atom
pointer_beside line op before target pointer number c =
    operations.pointer_beside line op (working op) (cut before c.code) (plain target) pointer number c

abbrev pub beside_integer : ℕ → BinaryOp → CType → Atom → Atom → Context → Context × Atom
beside_integer line op target number pointer c =
    operations.beside_integer line op (working op) (plain target) number pointer c

-- two values of types; the mark stands in front of the right one's code
abbrev pub combine : ℕ → BinaryOp → Mark → CType → CType → Atom → Atom → Context → Context × Atom
combine line op before x_type y_type x y c =
    operations.combine line op (cut before c.code) (operand (plain x_type)) (operand (plain y_type)) x y c

-- what was read of a place of a type, changed by a value of another
abbrev pub change : ℕ → BinaryOp → CType → CType → Atom → Atom → Context → Context × Atom
change line op type y_type old y c = operations.change line op (operand (plain type)) (operand (plain y_type)) old y c

-- an operator before an expression, between two, and a cast
abbrev pub negated : ℕ → Expr → CType → Atom → Context → Context × Atom
negated line tree type value c = negations.negated line (expr_view tree) (plain type) value c

abbrev pub between : ℕ → BinaryOp → Mark → Found → Found → Context → With plain.Found
between line op before x y c = rules.between line op (cut before c.code) c (plain_found x) (plain_found y)

abbrev pub cast_to : ℕ → CType → Mark → Found → Context → With plain.Found
cast_to line type before e c = rules.cast_to line (plain type) (cut before c.code) c (plain_found e)

-- a member at an offset
abbrev pub member_of : ℕ → ℕ → Typed → Found → Context → Context × plain.Found
member_of line offset typed e c = rules.member_of line offset (plain_typed typed) c (plain_found e)

-- what a declared name is, where it has a type
abbrev pub name_found : Typed → Bool → Option (Bor Named) → plain.Found
name_found typed inner named = rules.name_found (plain_typed typed) inner (option_map (λ n. plain_named n.now) named)

-- addresses that are known before the run

abbrev pub Fixes : {E : Type 0} → Result Fixed E → plain.Fixed → Type 0
Fixes result wanted = IfOk result (λ fixed. plain_fixed fixed ≡ wanted)

abbrev pub fixed_sum_of : Context → Bool → Found → Found → plain.Fixed
fixed_sum_of c down x y =
    operations.fixed_sum_of c down (operand (plain x.typed.ty)) (operand (plain y.typed.ty)) (plain_found x) (plain_found y)

-- `&&`, `||` and `?:`

abbrev pub tested : Expr → CType → Atom → Context → Context × Atom
tested tree type value c = plain.tested (code_line (expr_view tree)) (plain type) value c

-- behind the left operand
abbrev pub and_then : ℕ → Expr → Found → Context → Context
and_then line tree e c = rules.and_then line (expr_view tree) (at c e)

abbrev pub or_else : ℕ → Expr → Found → Context → Context × Atom
or_else line tree e c = rules.or_else line (expr_view tree) (at c e)

-- behind the right operand, whatever left operand has this type
abbrev pub AndEnds : ℕ → ℕ → Expr → Typed → Found → Context → Context → Result Found TypeError → Type 0
AndEnds line label tree x y before c result =
    (left : plain.Found) → left.typed ≡ plain_typed x →
    Finds c result (rules.and_ended line label (expr_view tree) left (at before y))

abbrev pub OrEnds : ℕ → ℕ → Expr → Atom → Typed → Found → Context → Context → Result Found TypeError → Type 0
OrEnds line end tree to x y before c result =
    (left : plain.Found) → left.typed ≡ plain_typed x →
    Finds c result (rules.or_ended line end (expr_view tree) to left (at before y))

-- the middle part of a choice; the mark stands in front of its code
abbrev pub chosen_by : ℕ → Mark → CType → Typed → Atom → Context → Context × Atom
chosen_by line before type source value c =
    rules.chosen_by line (cut before c.code) (plain type) (plain_typed source) (c, value)

abbrev pub choose_first : ℕ → ℕ → Mark → CType → Found → Context → Context × Atom
choose_first line other before type x c = rules.choose_first line other (cut before c.code) (plain type) (at c x)

-- behind the last part, whatever test and middle part have these types
abbrev pub Chooses : ℕ → ℕ → Mark → Atom → Typed → Typed → Found → Context → Context → Result Found TypeError → Type 0
Chooses line end before to test x y start c result =
    (tested first : plain.Found) → tested.typed ≡ plain_typed test → first.typed ≡ plain_typed x →
    Finds c result (rules.chosen line end (cut before start.code) to tested first (at start y))

-- assignments

-- an assignment to a struct or union, and to a scalar, whatever code ends at the mark, behind which code has grown since
abbrev pub record_assigned : ℕ → ℕ → Found → Found → Context → With plain.Found
record_assigned line right target e c = assignments.record_assigned line right (plain_found target) (at c e)

abbrev pub AssignsScalar : ℕ → Mark → Expr → Found → Found → Context → Context → Result Found TypeError → Type 0
AssignsScalar line mark tree target e before c result =
    (code : Code) → mark_of code ≡ mark → Behind code.pieces before.code.pieces →
    Finds c result (assignments.scalar_assigned line code (expr_view tree) (plain_found target) (at before e))

-- a value that is converted and written to a scalar; the mark stands in front of its code
abbrev pub set_to : ℕ → Mark → Typed → Spot → Found → Context → Context × plain.Found
set_to line before typed spot value c =
    assignments.set_to line (cut before c.code) (plain_typed typed) (found_as (plain_typed typed) (plain_spot spot) Unknown)
    (at c value)

-- a place that is read and written: what it holds is a value
abbrev pub changing : Expr → Found → Context → Checked plain.Found
changing tree e c =
    then (held_place (line_of (expr_view tree)) c.tags (plain_typed e.typed)) (λ _. Ok (plain_found e))

abbrev pub change_place : ℕ → BinaryOp → Typed → Spot → Atom → Found → Context → Context × Atom
change_place line op typed spot old y c =
    assignments.change_place line op (plain_typed typed) (found_as (plain_typed typed) (plain_spot spot) Unknown) old
    (plain_typed y.typed) (atom_in (plain_found y)) c

abbrev pub changed_by : ℕ → AssignOp → Bool → Found → Atom → Found → Context → With plain.Found
changed_by line op keeps_old target old y c =
    assignments.changed_by line op keeps_old (plain_found target) old (at c y)

-- calls

-- a call of a built-in function, whatever types its arguments have
abbrev pub CallsBuiltIn : {E : Type 0} → ℕ → BuiltIn → CType → CType → Option (List ℕ) → List Atom → Context → Context → Result Spot E → Type 0
CallsBuiltIn line name answer wanted format atoms before c result =
    (arguments : List Argument) → atoms_of arguments ≡ atoms →
    Locates c result (calls.call_built_in line name (plain answer) (plain wanted) format arguments before)

-- a call of what some name means, whatever name means it and whatever types its arguments have
abbrev pub CallsNamed : {E : Type 0} → ℕ → Called → CType → CType → Option (List ℕ) → List Atom → Context → Context → Result Spot E → Type 0
CallsNamed line called answer wanted format atoms before c result =
    (name : Option PlainNamed) (arguments : List Argument) → called_of name ≡ called → atoms_of arguments ≡ atoms →
    Locates c result (calls.call_named line name (plain answer) (plain wanted) format arguments before)
