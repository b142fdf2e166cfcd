-- How many parameters a signature has.
use Rattle.std.proofs.Common.{◌≡◌, ℕ, suc, List, [], ◌∷◌, length, Bor, refl, ap, ◌∙◌}
use Rattle.c_types.specs.declared.types.CType.{CType}
use Rattle.c_types.specs.declared.types.CType.TheVariants as c
use Rattle.c_types.specs.declared.types.Signature.{Signature}
use Rattle.c_types.specs.Types.{PlainType, plain, plain_list}
use Rattle.c_types.specs.TypesEquations.{plain-function}
use Rattle.c_decls.specs.PlaceRules.{length_of}
use Rattle.elaboration.specs.Externals.{params_of}

params_length : (params : List CType) → length_of (plain_list params) ≡ length params
params_length [] = refl
params_length (type ∷ rest) = ap (λ (n : ℕ). suc n) (params_length rest)

pub function_params : (type : CType) (signature : Bor Signature) → type ≡ c.Function signature →
    params_of (plain type) ≡ length signature.now.params.items
function_params type signature h =
    ap (λ (t : CType). params_of (plain t)) h
    ∙ ap (λ (t : PlainType). params_of t) (plain-function signature)
    ∙ params_length signature.now.params.items
