-- What a step of the walk comes to, against what its definition says: the context behind it and the answer are those that
-- are wanted, unless memory runs out.
use Rattle.std.specs.Prelude.{◌≡◌, ℕ, List, Option, Result, Vec, map, option_map}
use Rattle.c_types.specs.Types.{PlainType}
use Rattle.c_tree.specs.declared.tree.Expr.{Expr}
use Rattle.c_tree.specs.Tree.{Tree}
use Rattle.c_tree.specs.StatementView.{trees, expr_view}
use Rattle.c_decls.specs.declared.refusal.TypeError.{TypeError}
use Rattle.c_decls.specs.declared.typed.Typed.{Typed}
use Rattle.c_decls.specs.Refusals.{Meets}
use Rattle.c_decls.specs.Typed.{PlainTyped, plain_typed}
use Rattle.c_decls.specs.TypeNames as names
use Rattle.c_decls.specs.Named.{PlainNamed}
use Rattle.c_decls.specs.Callees.{Callee}
use Rattle.c_typing.specs.declared.callees.Callee.{Callee as CodeCallee}
use Rattle.c_typing.specs.Callee.{plain_callee}
use Rattle.elaboration.specs.Context.{Context, With}
use Rattle.elaboration.specs.Calls.{Argument}
use Rattle.elaboration.specs.Conversions as plain
use Rattle.elaboration.specs.Expressions.{call_answer}
use Rattle.elab_base.specs.declared.found.Found.{Found}
use Rattle.elab_base.specs.Outcomes.{Finds}
use Rattle.elab_rules.specs.declared.calls.Argument.{Argument as CodeArgument}
use Rattle.elab_rules.specs.declared.calls.Called.{Called}
use Rattle.elab_rules.specs.PlainArguments.{plain_argument, called_of}
use Rattle.elab_values.specs.Arguments.{format_of}

-- the arguments of a call, as the definition has them
abbrev pub plain_arguments : {Z : Type 0} → Vec CodeArgument Z → List Argument
plain_arguments xs = map plain_argument xs.items

-- an argument of a call, and all of them
abbrev pub Takes : Context → Result CodeArgument TypeError → With Argument → Type 0
Takes c result wanted = Meets (λ x. (c, plain_argument x)) result wanted

abbrev pub TakesAll : {Z : Type 0} → Context → Result (Vec CodeArgument Z) TypeError → With (List Argument) → Type 0
TakesAll c result wanted = Meets (λ xs. (c, plain_arguments xs)) result wanted

-- what is called
abbrev pub Calls : Context → Result CodeCallee TypeError → With Callee → Type 0
Calls c result wanted = Meets (λ target. (c, plain_callee target)) result wanted

-- an expression that the rules of types see
abbrev pub FindsTyped : Context → Result Typed TypeError → With PlainTyped → Type 0
FindsTyped c result wanted = Meets (λ typed. (c, plain_typed typed)) result wanted

-- the type of a format, whatever is declared
abbrev pub FindsFormat : Tree → Result (Option Typed) TypeError → Type 0
FindsFormat tree result =
    (declared : names.Context) → Meets (λ typed. option_map plain_typed typed) result (format_of tree declared)

-- the answer of a call of this, whatever name means it
abbrev pub FindsCall : Called → Context → Result Found TypeError → (Option PlainNamed → With plain.Found) → Type 0
FindsCall called c result wanted = (name : Option PlainNamed) → called_of name ≡ called → Finds c result (wanted name)

-- a call, once its arguments are in hand
abbrev pub call_of : {Z : Type 0} → ℕ → Option PlainNamed → CodeCallee → PlainType → List Expr → Vec CodeArgument Z → Context → With plain.Found
call_of line name target wanted list values c =
    call_answer line name (plain_callee target) wanted (trees expr_view list) c (plain_arguments values)
