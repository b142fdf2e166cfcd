-- Elements of lists.
use Rattle.std.proofs.Common.{◌≡◌, ◌<◌, ◌⊎◌, inl, inr, ℕ, zero, suc, Bool, true, List, [], ◌∷◌, length, get_or, refl, sym, ap, ◌∙◌, subst, arith}
use Rattle.std.specs.Prelude.{map, filter, AllPairs, Contains}
use Rattle.std.proofs.lemmas.Bool.{cases_order, cond-true, cond_both}
use Rattle.std.proofs.lemmas.List.{get_or_default}

pub contains_first : {X : Type 0} (x : X) (xs : List X) → Contains (x ∷ xs) x
contains_first x xs = (0, omega arith, refl)

pub contains_more : {X : Type 0} (x y : X) (xs : List X) → Contains xs y → Contains (x ∷ xs) y
contains_more x y xs h = (suc h.0, omega (arith, h.1), h.2)

-- an element that passes a test is in the list of those that do
pub contains_kept : {X Y : Type 0} (f : X → Y) (p : X → Bool) (xs : List X) (k : ℕ) (d : X) → k < length xs → p (get_or xs k d) ≡ true → Contains (map f (filter p xs)) (f (get_or xs k d))
contains_kept f p [] k d below passes = absurd (omega arith)
contains_kept {X} f p (x ∷ xs) zero d below passes =
    subst (λ (l : List X). Contains (map f l) (f x)) (sym (cond-true (p x) (x ∷ filter p xs) (filter p xs) passes)) (contains_first (f x) (map f (filter p xs)))
contains_kept {X} f p (x ∷ xs) (suc k) d below passes =
    let rest = contains_kept f p xs k d (omega arith) passes in
    cond_both (p x) (x ∷ filter p xs) (filter p xs) (λ (l : List X). Contains (map f l) (f (get_or xs k d)))
    (λ _. contains_more (f x) (f (get_or xs k d)) (map f (filter p xs)) rest) (λ _. rest)

-- two different elements of a list whose pairs are all related are related one way or the other
pub related : {X : Type 0} (R : X → X → Type 0) (xs : List X) (x y : X) → AllPairs R xs → Contains xs x → Contains xs y → (x ≡ y → ⊥) → R x y ⊎ R y x
related {X} R xs x y pairs at_x at_y differ =
    let i = at_x.0 in
    let j = at_y.0 in
    let one : get_or xs i x ≡ x = at_x.2 in
    let other : get_or xs j x ≡ y = get_or_default xs j x y at_y.1 ∙ at_y.2 in
    elim (cases_order i j) [
      | inl e ↦ absurd (differ (sym one ∙ ap (λ n. get_or xs n x) e ∙ other))
      | inr (inl h) ↦ inl (subst (λ (a : X). R a y) one (subst (λ (b : X). R (get_or xs i x) b) other (pairs i j x h at_y.1)))
      | inr (inr h) ↦ inr (subst (λ (a : X). R a x) other (subst (λ (b : X). R (get_or xs j x) b) one (pairs j i x h at_x.1)))
    ]
