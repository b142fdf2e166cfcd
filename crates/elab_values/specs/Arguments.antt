-- The arguments of a call, one by one.
use Rattle.std.specs.Prelude.{ℕ, zero, suc, List, ◌++◌, Option, Some, None, Ok}
use Rattle.c_types.specs.Types.{PlainType, PlainTypes, Void}
use Rattle.c_tree.specs.declared.tree.Expr.{Expr}
use Rattle.c_tree.specs.Tree.{Tree}
use Rattle.c_tree.specs.StatementView.{trees, expr_view}
use Rattle.c_decls.specs.Refusals.{Checked, then}
use Rattle.c_decls.specs.Typed.{PlainTyped}
use Rattle.c_decls.specs.Callees.{Callee, NoFunction}
use Rattle.c_decls.specs.TypeNames as names
use Rattle.c_decls.specs.Expressions.{typed, literal}
use Rattle.elaboration.specs.Context.{Context, With, asked}
use Rattle.elaboration.specs.Conversions.{Found, atom_in, convert}
use Rattle.elaboration.specs.Calls.{Argument, first_type, rest_types, argument_from}
use Rattle.elaboration.specs.Expressions.{format_argument, is_printf, value_of, arguments, parameters}

-- whose argument it is, by its place: only the first of `printf` is a format
abbrev pub target_at : ℕ → Callee → Callee
target_at zero target = target
target_at (suc place) target = NoFunction

-- the types of the parameters from a place on
abbrev pub types_from : ℕ → PlainTypes → PlainTypes
types_from zero params = params
types_from (suc place) params = rest_types (types_from place params)

-- an argument in front of those behind it
abbrev pub argument : ℕ → Callee → PlainTypes → Tree → Context → With Argument
argument line target params tree c =
    then (format_argument (is_printf target tree) c (typed tree (asked c)) (value_of tree (first_type params) c)) (λ d. Ok (argument_from line params c.code d.0 d.1))

-- the argument at a place of a call
abbrev pub argument_at : ℕ → ℕ → Callee → Tree → Context → With Argument
argument_at line place target tree c =
    argument line (target_at place target) (types_from place (parameters target)) tree c

-- all arguments of a call
abbrev pub all_arguments : ℕ → Callee → List Expr → Context → With (List Argument)
all_arguments line target list c = arguments line target (parameters target) (trees expr_view list) c

-- an argument as it is
abbrev pub as_it_is : Context × Found → With Argument
as_it_is d = Ok (d.0, (d.1.typed, atom_in d.1))

-- an argument that no parameter takes
abbrev pub loose_argument : Tree → Context → With Argument
loose_argument tree c = then (value_of tree Void c) (λ d. as_it_is d)

-- the first argument of `printf`
abbrev pub printed_argument : Tree → Context → With Argument
printed_argument tree c =
    then (format_argument (literal tree) c (typed tree (asked c)) (value_of tree Void c)) (λ d. as_it_is d)

-- an argument that is converted to the type of its parameter
abbrev pub taken_argument : ℕ → PlainType → Tree → Context → With Argument
taken_argument line type tree c =
    then (value_of tree type c) (λ d. let v = convert line c.code type d.1.typed (atom_in d.1) d.0 in Ok (v.0, (d.1.typed, v.1)))

-- the type of string literals, through parentheses; of anything else nothing is said
abbrev pub typed_if : Option (List ℕ) → Checked (names.Context × PlainTyped) → Checked (Option PlainTyped)
typed_if None answer = Ok None
typed_if (Some bytes) answer = then answer (λ d. Ok (Some d.1))

abbrev pub format_of : Tree → names.Context → Checked (Option PlainTyped)
format_of tree c = typed_if (literal tree) (typed tree c)

-- arguments behind others
abbrev pub behind : List Argument → With (List Argument) → With (List Argument)
behind before answer = then answer (λ more. Ok (more.0, before ++ more.1))
