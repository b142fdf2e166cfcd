-- The steps of the walk over specs and declarators.
use Rattle.std.specs.Prelude.{ℕ, ℤ, pos, List, [], ◌++◌, Option, Some, None, Ok}
use Rattle.c_types.specs.Types.{PlainType}
use Rattle.c_tree.specs.declared.operator.RecordSort.{RecordSort}
use Rattle.c_tree.specs.declared.tree.Expr.{Expr}
use Rattle.c_tree.specs.StatementView.{expr_view}
use Rattle.c_tree.specs.Words as w
use Rattle.c_tree.specs.Forms as f
use Rattle.c_tree.specs.Tree.{Tree, Trees, Leaf, At, Node, none, ◌▹◌}
use Rattle.c_tree.specs.Scopes.{name_of}
use Rattle.c_decls.specs.declared.refusal.TypeKind.TheVariants.{Operands}
use Rattle.c_decls.specs.Refusals.{Checked, refused, then}
use Rattle.c_decls.specs.Typed.{PlainTyped}
use Rattle.c_decls.specs.TypeNames as names
use Rattle.c_decls.specs.TypeNames.{Layer, ArrayOf, array_length, with_layers, with_param_layers, adjusted}
use Rattle.c_decls.specs.Expressions.{line_of, typed, wanted}
use Rattle.elaboration.specs.Context.{Context, With, asked, told}
use Rattle.elaboration.specs.Declarators.{Members, constant, begun, ended, enum_named, enumerator, enumerators, members, member_names, member, specs, layers, param}

-- an answer of the rules of types, with the scopes and tags behind it
abbrev pub with_told : {A : Type 0} → Context → Checked (names.Context × A) → With A
with_told c answer = then answer (λ d. Ok (told d.0 c, d.1))

-- an expression as the rules of types see it, and one whose value is wanted
abbrev pub typed_in : Tree → Context → With PlainTyped
typed_in e c = with_told c (typed e (asked c))

abbrev pub wanted_in : Tree → Context → With PlainTyped
wanted_in e c = with_told c (wanted e (typed e (asked c)))

-- the layer of an array whose length is given
abbrev pub array_layer : ℕ → Tree → Context → With Layer
array_layer line e c =
    then (wanted e (typed e (asked c))) (λ d. then (array_length (line_of e) d.1) (λ length. Ok (told d.0 c, ArrayOf line (Some length))))

-- the tree of an expression that may be left out
abbrev pub held : Option Expr → Trees
held None = none
held (Some e) = expr_view e ▹ none

-- the value of an enumerator: what is given, or the next one
abbrev pub value_or : Trees → ℤ → Context → With ℤ
value_or none next c = Ok (c, next)
value_or (value ▹ rest) next c = then (constant value c) (λ k. Ok (k.0, k.1.value))

abbrev pub enumerator_by : ℕ → List ℕ → Trees → ℤ → Context → With ℤ
enumerator_by line name value next c = then (value_or value next c) (λ v. enumerator line name v.1 v.0)

abbrev pub enumerator_step : Tree → ℤ → Context → With ℤ
enumerator_step (Node f.Enumerator (At line ▹ Leaf (w.Name name) ▹ Node f.MaybeValue value ▹ none)) next c =
    enumerator_by line name value next c
enumerator_step tree next c = refused Operands (line_of tree)

-- an enum, and a struct or union, with braces
abbrev pub enum_body : ℕ → Option (List ℕ) → Trees → Context → With PlainType
enum_body line name parts c = then (enumerators parts (pos 0) c) (λ e. enum_named line name e)

abbrev pub record_body : ℕ → RecordSort → Option (List ℕ) → Trees → Context → With PlainType
record_body line sort name parts c =
    let start = begun sort name c in
    then (members parts [] start.0) (λ m. ended line sort start.1 m.0 m.1)

-- the members of one declaration, and one of them
abbrev pub members_by : ℕ → Tree → Trees → Members → Context → With Members
members_by line words declarators list c =
    then (specs words c) (λ base. member_names line base.1 declarators list base.0)

abbrev pub member_by : ℕ → PlainType → Tree → Members → Context → With Members
member_by line base declarator list c =
    then (layers declarator c) (λ l. then (with_layers l.0.tags l.1 base) (λ type. member line (name_of declarator) type list l.0))

-- a parameter
abbrev pub param_by : ℕ → Tree → Tree → Context → With PlainType
param_by line words declarator c =
    then (specs words c) (λ base. then (layers declarator base.0) (λ l. then (with_param_layers l.0.tags l.1 base.1) (λ type. param line (name_of declarator) (adjusted type) l.0)))

-- layers with those of suffixes behind them
abbrev pub behind : List Layer → With (List Layer) → With (List Layer)
behind before answer = then answer (λ more. Ok (more.0, before ++ more.1))
