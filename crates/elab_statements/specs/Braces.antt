-- Initializers in braces, by their trees.
use Rattle.std.specs.Prelude.{ℕ, Bool, cond}
use Rattle.c_types.specs.Types.{PlainType}
use Rattle.c_tree.specs.Tree.{Trees, count}
use Rattle.c_decls.specs.declared.refusal.TypeKind.TheVariants.{Assignment}
use Rattle.c_decls.specs.Refusals.{refused, then}
use Rattle.elaboration.specs.Context.{Context}
use Rattle.elaboration.specs.Initializers.{Target, Filled, takes_braces, is_scalar_type, parts_of, all_surplus, initialize_parts}

-- the initializers between the braces of a list at a line
abbrev pub in_braces : ℕ → Trees → Bool → PlainType → ℕ → Target → Context → Filled
in_braces line inits in_scalar type offset target c =
    cond (takes_braces type in_scalar)
    (initialize_parts line inits (is_scalar_type type) (parts_of c (count inits) type offset) target c)
    (then (all_surplus inits c) (λ d. refused Assignment line))
