-- The type of `main`.
use Rattle.std.proofs.Common.{◌≡◌, ℕ, Bool, true, false, List, [], ◌∷◌, Bor, vec_len, refl, ap, sym, ◌∙◌, arith}
use Rattle.std.proofs.lemmas.Bool.Decides.{nat_tests}
use Rattle.std.specs.Prelude.{◌&&◌, ◌==◌, length}
use Rattle.c_types.specs.declared.types.IntType.TheVariants as i
use Rattle.c_types.specs.declared.types.CType.{CType}
use Rattle.c_types.specs.declared.types.CType.TheVariants as c
use Rattle.c_types.specs.declared.types.Signature.{Signature}
use Rattle.c_types.specs.Types.{PlainType, Int, Function, none, plain, plain_list}
use Rattle.c_types.specs.TypesEquations.{plain-function}
use Rattle.c_decls.specs.Typed.{same, all_same}

no_params : (params : List CType) → all_same (plain_list params) none ≡ (length params == 0)
unfolding all_same
no_params [] = refl
no_params (type ∷ rest) =
    let some : (length (type ∷ rest) == 0) ≡ false = grind (arith, nat_tests) in sym some

pub main_type : (type : CType) (signature : Bor Signature) → type ≡ c.Function signature →
    same (plain type) (Function (Int i.Int) none) ≡ same (plain signature.now.result) (Int i.Int) && (length signature.now.params.items == 0)
unfolding same
main_type type signature h =
    ap (λ (t : CType). same (plain t) (Function (Int i.Int) none)) h
    ∙ ap (λ (t : PlainType). same t (Function (Int i.Int) none)) (plain-function signature)
    ∙ ap (λ (b : Bool). same (plain signature.now.result) (Int i.Int) && b) (no_params signature.now.params.items)

-- where the answer is an int, the parameters decide
pub main_then : (type : CType) (signature : Bor Signature) (of_answer of_params : Signature) (b e : Bool) → type ≡ c.Function signature →
    of_answer ≡ signature.now → of_params ≡ signature.now → b ≡ same (plain of_answer.result) (Int i.Int) → b ≡ true → e ≡ (vec_len of_params.params == 0) →
    e ≡ same (plain type) (Function (Int i.Int) none)
main_then type signature of_answer of_params b e h is_answer is_params tested holds empty =
    let answer : same (plain signature.now.result) (Int i.Int) ≡ true = sym (ap (λ (s : Signature). same (plain s.result) (Int i.Int)) is_answer) ∙ sym tested ∙ holds in
    let none_left : e ≡ (vec_len signature.now.params == 0) = empty ∙ ap (λ (s : Signature). vec_len s.params == 0) is_params in
    let whole : same (plain type) (Function (Int i.Int) none) ≡ (true && (length signature.now.params.items == 0)) =
    main_type type signature h ∙ ap (λ (x : Bool). x && (length signature.now.params.items == 0)) answer in
    let both : (true && (length signature.now.params.items == 0)) ≡ (length signature.now.params.items == 0) = refl in
    let long : vec_len signature.now.params ≡ length signature.now.params.items = omega arith in
    none_left ∙ ap (λ (n : ℕ). n == 0) long ∙ sym both ∙ sym whole
