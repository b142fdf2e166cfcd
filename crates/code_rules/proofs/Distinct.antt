-- Pointers at different slots.
use Rattle.std.proofs.Common.{◌≡◌, ◌≢◌, ◌<◌, ◌≤◌, ◌+◌, ◌↔◌, ℕ, true, false, nat_eq, List, [], ◌∷◌, map, drop, take, length, length-drop, ◌-◌, get_or, refl, sym, ap, ◌∙◌, subst, arith, IsTrue, add-one, drop-cons, eq-eqb, ⊎_elim}
use Rattle.std.specs.List.{All, AllByRecursion, IsDistinct}
use Rattle.std.proofs.lemmas.Bool.{cases_Bool, eqb-true}
use Rattle.std.proofs.lemmas.List.Elements.{All-cons, All-head, All-nil, All-tail}
use Rattle.code_rules.proofs.Marks.{drop_past, take_all}

abbrev slots_of : List (ℕ × ℕ × ℕ) → List ℕ
slots_of pointers = map (λ (p : ℕ × ℕ × ℕ). p.0) pointers

abbrev pub AreDistinct : List (ℕ × ℕ × ℕ) → Type 0
AreDistinct pointers = IsDistinct nat_eq (slots_of pointers)

abbrev pub DistinctFrom : List (ℕ × ℕ × ℕ) → ℕ → Type 0
DistinctFrom pointers i = AreDistinct (drop i pointers) ↔ AreDistinct pointers

differ : (a b : ℕ) → b ≢ a → nat_eq a b ≡ false
differ a b ne = ⊎_elim (λ (yes : nat_eq a b ≡ true). absurd (ne (sym (eqb-true a b yes)))) (λ (no_ : nat_eq a b ≡ false). no_) (cases_Bool (nat_eq a b))

alone_to : (slot : ℕ) (ps : List (ℕ × ℕ × ℕ)) → All (λ (p : ℕ × ℕ × ℕ). p.0 ≢ slot) ps → AllByRecursion (λ y. nat_eq slot y ≡ false) (slots_of ps)
alone_to slot [] all = tt
alone_to slot (p ∷ ps) all = (differ slot p.0 (All-head (λ (p : ℕ × ℕ × ℕ). p.0 ≢ slot) p ps all), alone_to slot ps (All-tail (λ (p : ℕ × ℕ × ℕ). p.0 ≢ slot) p ps all))

alone_of : (slot : ℕ) (ps : List (ℕ × ℕ × ℕ)) → AllByRecursion (λ y. nat_eq slot y ≡ false) (slots_of ps) → All (λ (p : ℕ × ℕ × ℕ). p.0 ≢ slot) ps
alone_of slot [] all = All-nil (λ (p : ℕ × ℕ × ℕ). p.0 ≢ slot)
alone_of slot (p ∷ ps) all = All-cons (λ (p : ℕ × ℕ × ℕ). p.0 ≢ slot) p ps (λ same. let yes = eq-eqb slot p.0 (sym same) in let none = all.0 in absurd (cc)) (alone_of slot ps all.1)

front_of : (ps : List (ℕ × ℕ × ℕ)) (i : ℕ) (d : ℕ × ℕ × ℕ) → i < length ps → drop i ps ≡ get_or ps i d ∷ drop (i + 1) ps
front_of ps i d inside = drop-cons ps i d inside ∙ ap (λ n. get_or ps i d ∷ drop n ps) (sym (add-one i))

pub more_distinct : (ps : List (ℕ × ℕ × ℕ)) (i : ℕ) (d : ℕ × ℕ × ℕ) → i < length ps → All (λ (p : ℕ × ℕ × ℕ). p.0 ≢ (get_or ps i d).0) (drop (i + 1) ps) → DistinctFrom ps i → DistinctFrom ps (i + 1)
unfolding IsDistinct
more_distinct ps i d inside alone from =
    let e = front_of ps i d inside in
    (λ h. from.0 (subst AreDistinct (sym e) (alone_to (get_or ps i d).0 (drop (i + 1) ps) alone, h)), λ h. (subst AreDistinct e (from.1 h)).1)

pub not_distinct : (ps : List (ℕ × ℕ × ℕ)) (i : ℕ) (d : ℕ × ℕ × ℕ) → i < length ps → (All (λ (p : ℕ × ℕ × ℕ). p.0 ≢ (get_or ps i d).0) (drop (i + 1) ps) → ⊥) → DistinctFrom ps i → IsTrue false ↔ AreDistinct ps
unfolding IsDistinct
not_distinct ps i d inside fails from =
    (λ no_. absurd (cc), λ h. absurd (fails (alone_of (get_or ps i d).0 (drop (i + 1) ps) (subst AreDistinct (front_of ps i d inside) (from.1 h)).0)))

pub all_distinct : (ps : List (ℕ × ℕ × ℕ)) (i : ℕ) → length ps ≤ i → DistinctFrom ps i → IsTrue true ↔ AreDistinct ps
unfolding IsDistinct
all_distinct ps i end from = (λ yes. from.0 (subst AreDistinct (sym (drop_past ps i end)) tt), λ h. refl)

pub from_first : (ps : List (ℕ × ℕ × ℕ)) → DistinctFrom ps 0
from_first ps = (λ h. h, λ h. h)

pub tail_is : (ps : List (ℕ × ℕ × ℕ)) (n : ℕ) → take (length ps - n) (drop n ps) ≡ drop n ps
tail_is ps n = let long = length-drop n ps in take_all (drop n ps) (length ps - n) (omega arith)
