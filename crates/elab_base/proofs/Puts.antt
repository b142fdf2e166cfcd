-- Tests over a list with one more element.
use Rattle.std.proofs.Common.{◌≡◌, ◌||◌, ◌∷◌, [], ℕ, zero, suc, Bool, true, false, cond, List, refl, ap, sym, ◌∙◌}
use Rattle.std.specs.List.{list_any, insert}

or_swap : (a b c : Bool) → (a || (b || c)) ≡ (b || (a || c))
or_swap true true c = refl
or_swap true false c = refl
or_swap false b c = refl

cond_or : (a b : Bool) → cond a true b ≡ (a || b)
cond_or true b = refl
cond_or false b = refl

-- an element that was put at a place counts once
any_put : {X : Type 0} (p : X → Bool) (xs : List X) (i : ℕ) (x : X) → list_any p (insert xs i x) ≡ (p x || list_any p xs)
any_put p xs zero x = refl
any_put p [] (suc i) x = refl
any_put p (y ∷ ys) (suc i) x = ap (λ (b : Bool). p y || b) (any_put p ys i x) ∙ or_swap (p y) (p x) (list_any p ys)

-- what a set has of an element that it gets, as the list has that gets it at a place
pub put_found : {X : Type 0} (p : X → Bool) (xs ys : List X) (i : ℕ) (x : X) (before after : Bool) → ys ≡ insert xs i x → before ≡ list_any p xs → after ≡ cond (p x) true before → after ≡ list_any p ys
put_found p xs ys i x before after items same new =
    new ∙ (cond_or (p x) before ∙ (ap (λ (b : Bool). p x || b) same ∙ (sym (any_put p xs i x) ∙ ap (list_any p) (sym items))))
