-- What was written before, and then a further piece.
use Rattle.std.proofs.Common.{◌≡◌, ℕ, zero, suc, ◌<◌, arith, length, take, drop, get_or, refl, List, [], ◌∷◌, ◌++◌, Option, Some, Result, Ok, Err, IsErr, ap, sym, ◌∙◌, append_assoc}
use Rattle.std.specs.List.{flat_map}
use Rattle.std.proofs.lemmas.List.{append-nil}
use Rattle.hs_base.specs.declared.outside.Failed.{Failed}
use Rattle.hs_base.specs.PutAll.{PutsAll}

-- all of some bytes were taken
abbrev pub TakesAll : Option (List ℕ) → Option (List ℕ) → List ℕ → Type 0
TakesAll before after bytes = (taken : List ℕ) → before ≡ Some taken → after ≡ Some (taken ++ bytes)

-- a prefix of the middle piece, and what the front piece has before it
parted : (xs put rest ys zs : List ℕ) → put ++ rest ≡ ys → (xs ++ put) ++ (rest ++ zs) ≡ (xs ++ ys) ++ zs
parted xs put rest ys zs e =
    append_assoc xs put (rest ++ zs)
    ∙ ap (λ l. xs ++ l) (sym (append_assoc put rest zs) ∙ ap (λ l. l ++ zs) e)
    ∙ sym (append_assoc xs ys zs)

-- the front piece was taken, and the middle one failed
pub failed_within : {T U : Type 0} (before middle after : Option (List ℕ)) (xs ys zs all : List ℕ) (part : Result T Failed) (result : Result U Failed)
    → IsErr part → IsErr result
    → ((taken : List ℕ) → before ≡ Some taken → middle ≡ Some (taken ++ xs))
    → PutsAll middle after ys part → (xs ++ ys) ++ zs ≡ all
    → PutsAll before after all result
failed_within before middle after xs ys zs all (Ok value) result is_err failed begun h e = absurd (cc)
failed_within before middle after xs ys zs all (Err d) (Ok value) is_err failed begun h e = absurd (cc)
failed_within before middle after xs ys zs all (Err d) (Err d') is_err failed begun h e =
    λ taken told.
    let p = h (taken ++ xs) (begun taken told) in
    (xs ++ p.0, p.1 ++ zs, parted xs p.0 p.1 ys zs p.2 ∙ e, p.3 ∙ ap Some (append_assoc taken xs p.0))

-- a first piece failed, so nothing behind it is written
pub failed_first : {T U : Type 0} (before after : Option (List ℕ)) (xs ys : List ℕ) (part : Result T Failed) (result : Result U Failed)
    → IsErr part → IsErr result
    → PutsAll before after xs part → PutsAll before after (xs ++ ys) result
failed_first before after xs ys (Ok value) result is_err failed h = absurd (cc)
failed_first before after xs ys (Err d) (Ok value) is_err failed h = absurd (cc)
failed_first before after xs ys (Err d) (Err d') is_err failed h =
    λ taken told.
    let p = h taken told in
    (p.0, p.1 ++ ys, sym (append_assoc p.0 p.1 ys) ∙ ap (λ l. l ++ ys) p.2, p.3)

-- the first piece was taken, and then the second is written
pub joined : {T : Type 0} (before middle after : Option (List ℕ)) (xs ys : List ℕ) (result : Result T Failed)
    → ((taken : List ℕ) → before ≡ Some taken → middle ≡ Some (taken ++ xs))
    → PutsAll middle after ys result → PutsAll before after (xs ++ ys) result
joined before middle after xs ys (Ok value) begun h =
    λ taken told. h (taken ++ xs) (begun taken told) ∙ ap Some (append_assoc taken xs ys)
joined before middle after xs ys (Err e) begun h =
    λ taken told.
    let p = h (taken ++ xs) (begun taken told) in
    (xs ++ p.0, p.1, append_assoc xs p.0 p.1 ∙ ap (λ l. xs ++ l) p.2, p.3 ∙ ap Some (append_assoc taken xs p.0))

-- the parts before a place, the part there, and the parts behind it are all of them
pub flat_map-around : {X : Type 0} (f : X → List ℕ) (xs : List X) (i : ℕ) (d : X) → i < length xs
    → (flat_map f (take i xs) ++ f (get_or xs i d)) ++ flat_map f (drop (suc i) xs) ≡ flat_map f xs
flat_map-around f [] i d within = absurd (omega arith)
flat_map-around f (x ∷ xs) zero d within = refl
flat_map-around f (x ∷ xs) (suc i) d within =
    let inner = flat_map-around f xs i d (omega arith) in
    ap (λ l. l ++ flat_map f (drop (suc i) xs)) (append_assoc (f x) (flat_map f (take i xs)) (f (get_or xs i d)))
    ∙ append_assoc (f x) (flat_map f (take i xs) ++ f (get_or xs i d)) (flat_map f (drop (suc i) xs))
    ∙ ap (λ l. f x ++ l) inner

-- some of the bytes were taken, and a piece behind them failed
pub failed_behind : {T U : Type 0} (before middle after : Option (List ℕ)) (piece rest all : List ℕ) (part : Result T Failed) (result : Result U Failed)
    → IsErr part → IsErr result
    → ((taken : List ℕ) → before ≡ Some taken → (put : List ℕ) × (middle ≡ Some (taken ++ put)) × (put ++ (piece ++ rest) ≡ all))
    → PutsAll middle after piece part → PutsAll before after all result
failed_behind before middle after piece rest all (Ok value) result is_err failed begun h = absurd (cc)
failed_behind before middle after piece rest all (Err d) (Ok value) is_err failed begun h = absurd (cc)
failed_behind before middle after piece rest all (Err d) (Err d') is_err failed begun h =
    λ taken told.
    let b = begun taken told in
    let p = h (taken ++ b.0) b.1 in (
      b.0 ++ p.0,
      p.1 ++ rest,
      append_assoc b.0 p.0 (p.1 ++ rest) ∙ ap (λ l. b.0 ++ l) (sym (append_assoc p.0 p.1 rest) ∙ ap (λ l. l ++ rest) p.2) ∙ b.2,
      p.3 ∙ ap Some (append_assoc taken b.0 p.0),
    )

-- the first parts and one more
flat_map-more : {X : Type 0} (f : X → List ℕ) (xs : List X) (i : ℕ) (d : X) → i < length xs
    → flat_map f (take (suc i) xs) ≡ flat_map f (take i xs) ++ f (get_or xs i d)
flat_map-more f [] i d within = absurd (omega arith)
flat_map-more f (x ∷ xs) zero d within = append-nil (f x)
flat_map-more f (x ∷ xs) (suc i) d within =
    ap (λ l. f x ++ l) (flat_map-more f xs i d (omega arith))
    ∙ sym (append_assoc (f x) (flat_map f (take i xs)) (f (get_or xs i d)))

-- the first parts were taken, and then one more
pub taken_more : {X : Type 0} (f : X → List ℕ) (xs : List X) (i n : ℕ) (d : X) (before middle after : Option (List ℕ)) → i < length xs → n ≡ suc i
    → ((taken : List ℕ) → middle ≡ Some taken → after ≡ Some (taken ++ f (get_or xs i d)))
    → ((taken : List ℕ) → before ≡ Some taken → middle ≡ Some (taken ++ flat_map f (take i xs)))
    → (taken : List ℕ) → before ≡ Some taken → after ≡ Some (taken ++ flat_map f (take n xs))
taken_more f xs i n d before middle after within next puts begun taken told =
    puts (taken ++ flat_map f (take i xs)) (begun taken told)
    ∙ ap Some (append_assoc taken (flat_map f (take i xs)) (f (get_or xs i d)) ∙ ap (λ l. taken ++ l) (sym (flat_map-more f xs i d within) ∙ ap (λ k. flat_map f (take k xs)) (sym next)))
