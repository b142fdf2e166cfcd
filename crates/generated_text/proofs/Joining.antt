-- Pieces that are written one after another.
use Rattle.std.proofs.Common.{◌≡◌, ℕ, zero, suc, ◌<◌, arith, length, take, drop, get_or, refl, List, [], ◌∷◌, ◌++◌, Option, Some, Result, Ok, Err, IsErr, ap, sym, ◌∙◌, append_assoc}
use Rattle.std.specs.List.{flat_map}
use Rattle.hs_base.specs.declared.outside.Failed.{Failed}
use Rattle.hs_base.specs.PutAll.{PutsAll}

-- a prefix of the middle piece, and what the front piece has before it
parted : (xs put rest ys zs : List ℕ) → put ++ rest ≡ ys → (xs ++ put) ++ (rest ++ zs) ≡ (xs ++ ys) ++ zs
parted xs put rest ys zs e =
    append_assoc xs put (rest ++ zs)
    ∙ ap (λ l. xs ++ l) (sym (append_assoc put rest zs) ∙ ap (λ l. l ++ zs) e)
    ∙ sym (append_assoc xs ys zs)

-- the front piece was taken, and the middle one failed
pub failed_within : {T U : Type 0} (before middle after : Option (List ℕ)) (xs ys zs all : List ℕ) (part : Result T Failed) (result : Result U Failed)
    → IsErr part → IsErr result
    → ((taken : List ℕ) → before ≡ Some taken → middle ≡ Some (taken ++ xs))
    → PutsAll middle after ys part → (xs ++ ys) ++ zs ≡ all
    → PutsAll before after all result
failed_within before middle after xs ys zs all (Ok value) result is_err failed begun h e = absurd (cc)
failed_within before middle after xs ys zs all (Err d) (Ok value) is_err failed begun h e = absurd (cc)
failed_within before middle after xs ys zs all (Err d) (Err d') is_err failed begun h e =
    λ taken told.
    let p = h (taken ++ xs) (begun taken told) in
    (xs ++ p.0, p.1 ++ zs, parted xs p.0 p.1 ys zs p.2 ∙ e, p.3 ∙ ap Some (append_assoc taken xs p.0))

-- the parts before a place, the part there, and the parts behind it are all of them
pub flat_map-around : {X : Type 0} (f : X → List ℕ) (xs : List X) (i : ℕ) (d : X) → i < length xs
    → (flat_map f (take i xs) ++ f (get_or xs i d)) ++ flat_map f (drop (suc i) xs) ≡ flat_map f xs
flat_map-around f [] i d within = absurd (omega arith)
flat_map-around f (x ∷ xs) zero d within = refl
flat_map-around f (x ∷ xs) (suc i) d within =
    let inner = flat_map-around f xs i d (omega arith) in
    ap (λ l. l ++ flat_map f (drop (suc i) xs)) (append_assoc (f x) (flat_map f (take i xs)) (f (get_or xs i d)))
    ∙ append_assoc (f x) (flat_map f (take i xs) ++ f (get_or xs i d)) (flat_map f (drop (suc i) xs))
    ∙ ap (λ l. f x ++ l) inner
