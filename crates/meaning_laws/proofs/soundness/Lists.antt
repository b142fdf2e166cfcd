-- Lists of values by their sorts, and lists that are overlaid.
use Rattle.meaning_laws.proofs.Words.Core.{overlaid}
use Rattle.meaning_laws.proofs.Words.Std.{All, All-append, All-drop, All-take, AllZip, List, Some, [], arith, drop, get_or, length, length-append, length-drop, length-take, set, slice_get, subst, suc, take, zero, ℕ, ◌++◌, ◌+◌, ◌∷◌, ◌≡◌, ◌≤◌}

module _ {A B : Type 0} (R : A → B → Type 0) where
  pub zip_at : (xs : List A) (ys : List B) (k : ℕ) (x : A) (d : B) → AllZip R xs ys → slice_get xs k ≡ Some x → R x (get_or ys k d)
  zip_at [] ys k x d h e = absurd (cc)
  zip_at (a ∷ xs) [] k x d h e = absurd h
  zip_at (a ∷ xs) (y ∷ ys) zero x d h e = let same : a ≡ x = cc in subst (λ (z : A). R z y) same h.0
  zip_at (a ∷ xs) (y ∷ ys) (suc k) x d h e = zip_at xs ys k x d h.1 e

  pub zip_set : (xs : List A) (ys : List B) (k : ℕ) (x : A) (y : B) → AllZip R xs ys → slice_get xs k ≡ Some x → R x y → AllZip R xs (set ys k y)
  zip_set [] ys k x y h e r = absurd (cc)
  zip_set (a ∷ xs) [] k x y h e r = absurd h
  zip_set (a ∷ xs) (b ∷ ys) zero x y h e r = let same : x ≡ a = cc in (subst (λ (z : A). R z y) same r, h.1)
  zip_set (a ∷ xs) (b ∷ ys) (suc k) x y h e r = (h.0, zip_set xs ys k x y h.1 e r)

  pub zip_push : (xs : List A) (ys : List B) (x : A) (y : B) → AllZip R xs ys → R x y → AllZip R (xs ++ x ∷ []) (ys ++ y ∷ [])
  zip_push [] [] x y h r = (r, tt)
  zip_push [] (b ∷ ys) x y h r = absurd h
  zip_push (a ∷ xs) [] x y h r = absurd h
  zip_push (a ∷ xs) (b ∷ ys) x y h r = (h.0, zip_push xs ys x y h.1 r)

  -- each of the second list is in the relation to something, or P holds of it anyway
  pub zip_each : (P : B → Type 0) → ((x : A) (y : B) → R x y → P y) → (xs : List A) (ys : List B) (d : B) → AllZip R xs ys → P d → (k : ℕ) → P (get_or ys k d)
  zip_each P f xs [] d h p k = p
  zip_each P f [] (y ∷ ys) d h p k = absurd h
  zip_each P f (x ∷ xs) (y ∷ ys) d h p zero = f x y h.0
  zip_each P f (x ∷ xs) (y ∷ ys) d h p (suc k) = zip_each P f xs ys d h.1 p k

pub zip_weaker : {A B : Type 0} (R S : A → B → Type 0) → ((x : A) (y : B) → R x y → S x y) → (xs : List A) (ys : List B) → AllZip R xs ys → AllZip S xs ys
zip_weaker R S f [] [] h = tt
zip_weaker R S f [] (y ∷ ys) h = absurd h
zip_weaker R S f (x ∷ xs) [] h = absurd h
zip_weaker R S f (x ∷ xs) (y ∷ ys) h = (f x y h.0, zip_weaker R S f xs ys h.1)

-- Lists that are overlaid

pub overlaid_length : {A : Type 0} (xs : List A) (place : ℕ) (new : List A) → place + length new ≤ length xs → length (overlaid xs place new) ≡ length xs
overlaid_length xs place new h = simp (length-append, length-take, length-drop) (omega arith)

pub overlaid_all : {A : Type 0} (P : A → Type 0) (xs : List A) (place : ℕ) (new : List A) → All P xs → All P new → All P (overlaid xs place new)
overlaid_all P xs place new h i =
    All-append P (take place xs ++ new) (drop (place + length new) xs) (All-append P (take place xs) new (All-take P place xs h) i) (All-drop P (place + length new) xs h)

-- an item of a list, or the one that stands for none
pub all_or : {A : Type 0} (P : A → Type 0) (xs : List A) (k : ℕ) (d : A) → All P xs → P d → P (get_or xs k d)
all_or P [] k d h p = p
all_or P (x ∷ xs) zero d h p = h 0 d (omega arith)
all_or P (x ∷ xs) (suc k) d h p = all_or P xs k d (λ j e lt. h (suc j) e (omega arith)) p

pub all_at : {A : Type 0} (P : A → Type 0) (xs : List A) (k : ℕ) (x : A) → All P xs → slice_get xs k ≡ Some x → P x
all_at P [] k x h e = absurd (cc)
all_at P (y ∷ xs) zero x h e = let same : y ≡ x = cc in subst P same (h 0 y (omega arith))
all_at P (y ∷ xs) (suc k) x h e = all_at P xs k x (λ j d lt. h (suc j) d (omega arith)) e
