-- Types as plain data: functions, and lists of parameters.
use Rattle.std.proofs.Common.{◌≡◌, ℕ, suc, List, [], ◌∷◌, Bor, refl, ap, ◌∙◌, rules, IsTrue, false, ◌↔◌, ◌<◌, ◌≤◌, zero, length, take, get_or, arith}
use Rattle.c_types.specs.declared.types.CType.{CType, size-CType, the_lemmas}
use Rattle.c_types.specs.declared.types.CType.TheVariants as c
use Rattle.c_types.specs.declared.types.Signature.{Signature}
use Rattle.c_types.specs.Types.{Function, none, first, plain, plain_list}

pub result_below : (x : Bor Signature) → size-CType x.now.result ≤ size-CType (c.Function x)
result_below x = search (rules, the_lemmas)

pub never : {P : Type 0} → (P → ⊥) → IsTrue false ↔ P
never n = ((λ h. cc), λ p. absurd (n p))

pub length-plain_list : (xs ys : List CType) → plain_list xs ≡ plain_list ys → length xs ≡ length ys
length-plain_list [] [] e = refl
length-plain_list [] (y ∷ ys) e = cc
length-plain_list (x ∷ xs) [] e = cc
length-plain_list (x ∷ xs) (y ∷ ys) e =
    let tails : plain_list xs ≡ plain_list ys = cc in ap suc (length-plain_list xs ys tails)

-- the types at one place of two lists of the same types are the same
pub plain_list-at :
    (xs ys : List CType) (i : ℕ) (x y : CType) → x ≡ get_or xs i x → y ≡ get_or ys i y → i < length xs → length xs ≡ length ys →
    plain_list xs ≡ plain_list ys → plain x ≡ plain y
plain_list-at [] ys i x y xi yi h l e = absurd (omega arith)
plain_list-at (a ∷ xs) [] i x y xi yi h l e = absurd (omega arith)
plain_list-at (a ∷ xs) (b ∷ ys) zero x y xi yi h l e = let heads : plain a ≡ plain b = cc in cc
plain_list-at (a ∷ xs) (b ∷ ys) (suc i) x y xi yi h l e =
    let tails : plain_list xs ≡ plain_list ys = cc in plain_list-at xs ys i x y xi yi (omega arith) (omega arith) tails

-- two lists whose first types are the same, and the next types too
pub plain_list-take :
    (xs ys : List CType) (i : ℕ) (x y : CType) → x ≡ get_or xs i x → y ≡ get_or ys i y → i < length xs → length xs ≡ length ys →
    plain x ≡ plain y → plain_list (take i xs) ≡ plain_list (take i ys) → plain_list (take (suc i) xs) ≡ plain_list (take (suc i) ys)
plain_list-take [] ys i x y xi yi h l p e = absurd (omega arith)
plain_list-take (a ∷ xs) [] i x y xi yi h l p e = absurd (omega arith)
plain_list-take (a ∷ xs) (b ∷ ys) zero x y xi yi h l p e = let heads : plain a ≡ plain b = cc in ap (λ t. first t none) heads
plain_list-take (a ∷ xs) (b ∷ ys) (suc i) x y xi yi h l p e =
    let heads : plain a ≡ plain b = cc in
    let tails : plain_list (take i xs) ≡ plain_list (take i ys) = cc in
    let more : plain_list (take (suc i) xs) ≡ plain_list (take (suc i) ys) = plain_list-take xs ys i x y xi yi (omega arith) (omega arith) p tails in
    ap (λ t. first t (plain_list (take (suc i) xs))) heads ∙ ap (first (plain b)) more
