-- Copies of names, item by item.
use Rattle.std.proofs.Common.{◌≡◌, ◌<◌, ◌+◌, ℕ, zero, suc, List, [], ◌∷◌, ◌++◌, length, map, get_or, take, sym, ap, ◌∙◌, add-one, arith}

-- one item more of a list
taken_more : {X Y : Type 0} (g : X → Y) (xs : List X) (n : ℕ) (x : X) → n < length xs → x ≡ get_or xs n x → map g (take n xs) ++ g x ∷ [] ≡ map g (take (n + 1) xs)
taken_more g [] n x inside is = absurd (omega arith)
taken_more g (z ∷ xs) zero x inside is = ap (λ w. g w ∷ []) is
taken_more g (z ∷ xs) (suc n) x inside is =
    ap (λ (ys : List _). g z ∷ ys) (taken_more g xs n x (omega arith) is)
    ∙ ap (λ m. g z ∷ map g (take m xs)) (add-one n)
    ∙ ap (λ m. map g (take m (z ∷ xs))) (sym (add-one (suc n)))

-- so it is for a list that is copied with a change
pub copied_more : {X Y : Type 0} (g : X → Y) (xs : List X) (n : ℕ) (x : X) (ys : List Y) (y : Y) → n < length xs → x ≡ get_or xs n x → ys ≡ map g (take n xs) → y ≡ g x → ys ++ y ∷ [] ≡ map g (take (n + 1) xs)
copied_more g xs n x ys y inside is so same =
    ap (λ (zs : List _). zs ++ y ∷ []) so ∙ ap (λ z. map g (take n xs) ++ z ∷ []) same ∙ taken_more g xs n x inside is
