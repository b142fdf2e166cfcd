-- Sorts that are told.
use Rattle.std.proofs.Common.{◌≡◌, ◌≤◌, ◌<◌, ◌↔◌, ◌&&◌, ◌||◌, IsTrue, ℕ, Bool, true, false, List, [], ◌∷◌, Option, Some, None, map, min, take, length, refl, sym, ap, ◌∙◌, ⊎_elim, arith}
use Rattle.std.specs.Option.{option_eq}
use Rattle.std.proofs.lemmas.Bool.{cases_lt}
use Rattle.std.proofs.lemmas.List.{take-map}
use mathlib.Core.Bool.{beq}
use lib.Pointwise.{pointwise}
use Rattle.core_tree.specs.Sorts.{Integer, Pointer, Sort}
use Rattle.flat_code.specs.Table.{sort_of}
use Rattle.code_rules.specs.Operands.{sort_told, sorts_told}
use Rattle.code_rules.proofs.Marks.{take_all}

one_same : (a b : Option Bool) → option_eq beq a b ≡ true → sort_told a ≡ sort_told b
one_same None None is = refl
one_same None (Some b) is = absurd (cc)
one_same (Some a) None is = absurd (cc)
one_same (Some true) (Some true) is = refl
one_same (Some true) (Some false) is = absurd (cc)
one_same (Some false) (Some true) is = absurd (cc)
one_same (Some false) (Some false) is = refl

one_equal : (a b : Option Bool) → sort_told a ≡ sort_told b → option_eq beq a b ≡ true
one_equal None None is = refl
one_equal None (Some b) is = absurd (cc)
one_equal (Some a) None is = absurd (cc)
one_equal (Some true) (Some true) is = refl
one_equal (Some true) (Some false) is = absurd (cc)
one_equal (Some false) (Some true) is = absurd (cc)
one_equal (Some false) (Some false) is = refl

both_true : (a b : Bool) → (a && b) ≡ true → (a ≡ true) × (b ≡ true)
both_true true b is = (refl, is)
both_true false b is = absurd (cc)

and_true : (a b : Bool) → a ≡ true → b ≡ true → (a && b) ≡ true
and_true true b one two = two
and_true false b one two = absurd (cc)

all_same : (xs ys : List (Option Bool)) → pointwise (option_eq beq) xs ys ≡ true → sorts_told xs ≡ sorts_told ys
all_same [] [] is = refl
all_same [] (y ∷ ys) is = absurd (cc)
all_same (x ∷ xs) [] is = absurd (cc)
all_same (x ∷ xs) (y ∷ ys) is =
    let both = both_true (option_eq beq x y) (pointwise (option_eq beq) xs ys) is in
    let first = one_same x y both.0 in let rest = all_same xs ys both.1 in cc

all_equal : (xs ys : List (Option Bool)) → sorts_told xs ≡ sorts_told ys → pointwise (option_eq beq) xs ys ≡ true
all_equal [] [] is = refl
all_equal [] (y ∷ ys) is = absurd (cc)
all_equal (x ∷ xs) [] is = absurd (cc)
all_equal (x ∷ xs) (y ∷ ys) is =
    let first : sort_told x ≡ sort_told y = cc in let rest : sorts_told xs ≡ sorts_told ys = cc in
    and_true (option_eq beq x y) (pointwise (option_eq beq) xs ys) (one_equal x y first) (all_equal xs ys rest)

pub same_sorts : (xs ys : List (Option Bool)) (r : Bool) → r ≡ pointwise (option_eq beq) xs ys → (r ≡ true) ↔ (sorts_told xs ≡ sorts_told ys)
same_sorts xs ys r is = (λ yes. all_same xs ys (sym is ∙ yes), λ same. is ∙ all_equal xs ys same)

pub take_min : {X : Type 0} (xs : List X) (n : ℕ) → take (min (length xs) n) xs ≡ take n xs
take_min xs n =
    ⊎_elim
    (λ (less : n < length xs). let e : min (length xs) n ≡ n = omega arith in ap (λ m. take m xs) e)
    (λ (past : length xs ≤ n). take_all xs (min (length xs) n) (omega arith) ∙ sym (take_all xs n past))
    (cases_lt n (length xs))

pub first_sorts : (kinds : List Bool) (n : ℕ) → map sort_of (take (min (length kinds) n) kinds) ≡ take n (map sort_of kinds)
first_sorts kinds n = ap (map sort_of) (take_min kinds n) ∙ sym (take-map sort_of n kinds)

by_sort : (b : Bool) (told : List (Option Sort)) → (IsTrue false ↔ (told ≡ Some Integer ∷ [])) → (IsTrue b ↔ (told ≡ Some Pointer ∷ [])) → (sort : Sort) → told ≡ Some sort ∷ [] → IsTrue b
by_sort b told one two Integer is = let e = one.1 is in absurd (cc)
by_sort b told one two Pointer is = two.1 is

-- of two tests, one for each sort
pub one_of_two : (a b : Bool) (told : List (Option Sort)) → (IsTrue a ↔ (told ≡ Some Integer ∷ [])) → (IsTrue b ↔ (told ≡ Some Pointer ∷ [])) →
    IsTrue (a || b) ↔ ((sort : Sort) × (told ≡ Some sort ∷ []))
one_of_two true b told one two = (λ yes. (Integer, one.0 refl), λ h. refl)
one_of_two false b told one two =
    (λ yes. (Pointer, two.0 yes), λ h. by_sort b told one two h.0 h.1)
