-- Slots are known by which offsets they contain.
use Rattle.std.proofs.Common.{◌≡◌, ◌≤◌, ◌<◌, ◌+◌, ◌==◌, ◌&&◌, ◌||◌, ℕ, suc, zero, Bool, true, false, List, [], ◌∷◌, filter, length, get_or, refl, ap, sym, ◌∙◌, arith}
use Rattle.std.specs.List.{AllByRecursion, range_with_len, list_any, list_all}
use Rattle.std.specs.Prelude.{nat_le}
use Rattle.std.proofs.lemmas.Bool.{eqb-true, eq-eqb, leb-true}
use Rattle.c_types.specs.Layouts.{AreSlots}

abbrev pub contains : ℕ → List ℕ → Bool
contains o ss = list_any (λ slot. slot == o) ss

pub same_bool : (a b : Bool) → (a ≡ true → b ≡ true) → (b ≡ true → a ≡ true) → a ≡ b
same_bool true b f g = sym (f refl)
same_bool false true f g = g refl
same_bool false false f g = refl

differ : (s o : ℕ) → (s ≡ o → ⊥) → (s == o) ≡ false
differ s o n =
    elim (s == o) as (λ t. (s == o) ≡ t → t ≡ false) [ true ↦ λ q. absurd (n (eqb-true s o q)) | false ↦ λ q. refl ] refl

pub not_below : (low high : ℕ) (ss : List ℕ) (o : ℕ) → AreSlots low high ss → o < low → contains o ss ≡ false
not_below low high [] o h b = refl
not_below low high (s ∷ ss) o h b =
    let low_s = h.0 in
    rw (differ s o (λ e. absurd (omega arith))) (not_below (s + 4) high ss o h.3 (omega arith))

pub filtered :
    (p : ℕ → Bool) (xs : List ℕ) (low high a n : ℕ) → AreSlots low high xs → a ≤ low → high ≤ a + n → ((o : ℕ) → a ≤ o → p o ≡ contains o xs) →
    filter p (range_with_len a n) ≡ xs
filtered p [] low high a zero h b w e = refl
filtered p (s ∷ ss) low high a zero h b w e = absurd (let first = h.0 in let ends = h.1 in omega arith)
filtered p [] low high a (suc n) h b w e =
    rw (e a (omega arith)) (filtered p [] (a + 1) (a + 1) (a + 1) n tt (omega arith) (omega arith) (λ o g. e o (omega arith)))
filtered p (s ∷ ss) low high a (suc n) h b w e =
    let first = h.0 in
    let ends = h.1 in
    elim (s == a) as (λ t. (s == a) ≡ t → filter p (range_with_len a (suc n)) ≡ s ∷ ss) [
      | true ↦ λ q.
          let same : s ≡ a = eqb-true s a q in
          let here : p a ≡ true = e a (omega arith) ∙ rw q refl in
          rw here
          (ap (λ (x : ℕ). x ∷ filter p (range_with_len (a + 1) n)) (sym same)
          ∙ ap (λ l. s ∷ l)
          (filtered p ss (s + 4) high (a + 1) n h.3 (omega arith) (omega arith)
          (λ o g. e o (omega arith) ∙ rw (differ s o (λ d. absurd (omega arith))) refl)))
      | false ↦ λ q.
          let other : s ≡ a → ⊥ = (λ d. let yes : (s == a) ≡ true = eq-eqb s a d in cc) in
          let above : a + 1 ≤ s = omega (arith, other) in
          let none : p a ≡ false = e a (omega arith) ∙ rw q (not_below (s + 4) high ss a h.3 (omega arith)) in
          rw none
          (filtered p (s ∷ ss) s high (a + 1) n (omega arith, h.1, h.2, h.3) above (omega arith) (λ o g. e o (omega arith)))
    ]
    refl

and_first : (a b : Bool) → (a && b) ≡ true → a ≡ true
and_first true b e = refl
and_first false b e = cc

and_second : (a b : Bool) → (a && b) ≡ true → b ≡ true
and_second true b e = e
and_second false b e = cc

or_second : (a b : Bool) → (a || b) ≡ true → a ≡ false → b ≡ true
or_second true b e f = cc
or_second false b e f = e

pub or_first : (a b : Bool) → a ≡ true → (a || b) ≡ true
or_first a b e = rw e refl

pub or_other : (a b : Bool) → b ≡ true → (a || b) ≡ true
or_other true b e = refl
or_other false b e = e

pub passes_all : {X : Type 0} (p : X → Bool) (xs : List X) → list_all p xs ≡ true → AllByRecursion (λ x. p x ≡ true) xs
passes_all p [] e = tt
passes_all p (x ∷ xs) e = (and_first (p x) (list_all p xs) e, passes_all p xs (and_second (p x) (list_all p xs) e))

pub all_passes : {X : Type 0} (p : X → Bool) (xs : List X) → AllByRecursion (λ x. p x ≡ true) xs → list_all p xs ≡ true
all_passes p [] a = refl
all_passes p (x ∷ xs) a = rw (a.0, all_passes p xs a.1) refl

-- what passes at each slot passes at one that is there
pub passes_at : (q : ℕ → Bool) (ss : List ℕ) (o : ℕ) → list_all q ss ≡ true → contains o ss ≡ true → q o ≡ true
passes_at q [] o e c = cc
passes_at q (s ∷ ss) o e c =
    elim (s == o) as (λ t. (s == o) ≡ t → q o ≡ true) [
      | true ↦ λ d. ap q (sym (eqb-true s o d)) ∙ and_first (q s) (list_all q ss) e
      | false ↦ λ d. passes_at q ss o (and_second (q s) (list_all q ss) e) (rw d at c)
    ]
    refl

pub any_at : {X : Type 0} (p : X → Bool) (xs : List X) (i : ℕ) (x : X) → i < length xs → x ≡ get_or xs i x → p x ≡ true → list_any p xs ≡ true
any_at p [] i x h e c = absurd (omega arith)
any_at p (y ∷ ys) zero x h e c = or_first (p y) (list_any p ys) (ap p (sym e) ∙ c)
any_at p (y ∷ ys) (suc i) x h e c = or_other (p y) (list_any p ys) (any_at p ys i x (omega arith) e c)

pub or_holds : (size o : ℕ) (b : Bool) → (nat_le size o || b) ≡ true → o < size → b ≡ true
or_holds size o b e h =
    or_second (nat_le size o) b e
    (elim (nat_le size o) as (λ t. nat_le size o ≡ t → t ≡ false) [ true ↦ λ q. absurd (let less = leb-true size o q in omega arith) | false ↦ λ q. refl ] refl)
