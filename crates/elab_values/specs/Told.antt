-- What rules of types say, with scopes and tags put back.
use Rattle.std.specs.Prelude.{Ok}
use Rattle.c_decls.specs.Refusals.{Checked, then}
use Rattle.c_decls.specs.TypeNames as names
use Rattle.c_types.specs.Types.{PlainType}
use Rattle.c_tree.specs.Tree.{Tree}
use Rattle.c_decls.specs.Typed.{PlainTyped}
use Rattle.c_decls.specs.Expressions.{typed, typename}
use Rattle.elaboration.specs.Context.{Context, With, asked, told}
use Rattle.elaboration.specs.Conversions.{Found}
use Rattle.elaboration.specs.Expressions.{unevaluated}

-- an answer with the scopes and tags behind it in their place
abbrev pub told_with : {A : Type 0} → Context → Checked (names.Context × A) → With A
told_with c answer = then answer (λ d. Ok (told d.0 c, d.1))

-- an expression, and the name of a type, as the rules of types see them
abbrev pub typed_in : Tree → Context → With PlainTyped
typed_in e c = told_with c (typed e (asked c))

abbrev pub typename_in : Tree → Context → With PlainType
typename_in name c = told_with c (typename name (asked c))

-- an expression that is known by its type alone
abbrev pub unevaluated_in : Tree → Context → With Found
unevaluated_in e c = unevaluated c (typed e (asked c))
