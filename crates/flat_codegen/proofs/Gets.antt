-- The elements of lists that grow at their ends.
use Rattle.std.proofs.Common.{◌≡◌, ℕ, ◌+◌, ◌<◌, suc, zero, List, [], ◌∷◌, ◌++◌, refl, ap, ◌∙◌, subst, length, get_or, take, Some, arith, length-append}
use Rattle.std.specs.Prelude.{slice_get, All, Any, Contains, flat_map}
use Rattle.std.specs.List.{sum_by}
use Rattle.std.proofs.lemmas.List.Sums.{sum_by_push}
use Rattle.std.proofs.lemmas.Option.{slice_get_within, get_or_from_slice_get, slice_get-get_or}
use Rattle.std.proofs.lemmas.List.{get_or_append_left, get_or-append-add}

module _ {X : Type 0} where
  -- an element of the front part
  pub get_left : (xs ys : List X) (i : ℕ) (x : X) → slice_get xs i ≡ Some x → slice_get (xs ++ ys) i ≡ Some x
  get_left [] ys i x e = cc
  get_left (y ∷ xs) ys zero x e = e
  get_left (y ∷ xs) ys (suc i) x e = get_left xs ys i x e

  -- one of the part behind
  pub get_behind : (xs ys : List X) (i : ℕ) → slice_get (xs ++ ys) (length xs + i) ≡ slice_get ys i
  get_behind [] ys i = let e : 0 + i ≡ i = omega arith in ap (slice_get ys) e
  get_behind (x ∷ xs) ys i =
      let e : suc (length xs) + i ≡ suc (length xs + i) = omega arith in
      ap (slice_get (x ∷ (xs ++ ys))) e ∙ get_behind xs ys i

  -- a front part with one element more
  pub take_one_more : (xs : List X) (i : ℕ) (x : X) → slice_get xs i ≡ Some x → take (i + 1) xs ≡ take i xs ++ x ∷ []
  take_one_more [] i x e = cc
  take_one_more (y ∷ xs) zero x e = let same : y ≡ x = cc in ap (λ z. z ∷ []) same
  take_one_more (y ∷ xs) (suc i) x e =
      let s : suc i + 1 ≡ suc (i + 1) = omega arith in
      ap (λ n. take n (y ∷ xs)) s ∙ ap (λ l. y ∷ l) (take_one_more xs i x e)

  -- what holds of each element holds in each part
  pub all_left : (P : X → Type 0) (xs ys : List X) → All P (xs ++ ys) → All P xs
  all_left P xs ys h = λ k d b.
      let inside : k < length (xs ++ ys) = omega (arith, length-append xs ys) in
      subst P (get_or_append_left xs ys d k b) (h k d inside)

  pub all_right : (P : X → Type 0) (xs ys : List X) → All P (xs ++ ys) → All P ys
  all_right P xs ys h = λ k d b.
      let inside : length xs + k < length (xs ++ ys) = omega (arith, length-append xs ys) in
      subst P (get_or-append-add xs ys k d) (h (length xs + k) d inside)

  -- and of all that one element gives
  pub all_of_each : {A : Type 0} (P : X → Type 0) (f : A → List X) (xs : List A) (i : ℕ) (x : A) → All P (flat_map f xs) → slice_get xs i ≡ Some x → All P (f x)
  all_of_each P f [] i x h e = cc
  all_of_each P f (y ∷ xs) zero x h e =
      let same : y ≡ x = cc in
      subst (λ z. All P (f z)) same (all_left P (f y) (flat_map f xs) h)
  all_of_each P f (y ∷ xs) (suc i) x h e = all_of_each P f xs i x (all_right P (f y) (flat_map f xs) h) e

  -- the element directly behind a front part
  pub get_next : (xs : List X) (y : X) (ys : List X) → slice_get (xs ++ y ∷ ys) (length xs) ≡ Some y
  get_next [] y ys = refl
  get_next (x ∷ xs) y ys = get_next xs y ys

  -- the place behind a front part
  pub get_part : (xs ys : List X) (n i : ℕ) (x : X) → n ≡ length xs → slice_get ys i ≡ Some x → slice_get (xs ++ ys) (n + i) ≡ Some x
  get_part xs ys n i x e h = ap (λ (k : ℕ). slice_get (xs ++ ys) (k + i)) e ∙ get_behind xs ys i ∙ h

  -- there is an element at each place inside
  pub get_within : (xs : List X) (i : ℕ) → i < length xs → (x : X) × (slice_get xs i ≡ Some x)
  get_within [] i h = absurd (omega arith)
  get_within (x ∷ xs) zero h = (x, refl)
  get_within (x ∷ xs) (suc i) h = get_within xs i (omega arith)

  -- an element at a place is one of the list
  pub any_at : (P : X → Type 0) (xs : List X) (i : ℕ) (x : X) → slice_get xs i ≡ Some x → P x → Any P xs
  any_at P xs i x e p = (i, x, slice_get_within xs i x e, get_or_from_slice_get xs i x x e, p)

  pub contains_at : (xs : List X) (i : ℕ) (x : X) → slice_get xs i ≡ Some x → Contains xs x
  contains_at xs i x e = (i, slice_get_within xs i x e, get_or_from_slice_get xs i x x e)

  -- what holds at each place holds of each element
  pub all_at : (P : X → Type 0) (xs : List X) → ((i : ℕ) (x : X) → slice_get xs i ≡ Some x → P x) → All P xs
  all_at P xs h = λ k d b. h k (get_or xs k d) (slice_get-get_or xs k d b)

  -- a sum over one more
  pub sum_one_more : (g : X → ℕ) (xs : List X) (i : ℕ) (x : X) → slice_get xs i ≡ Some x → sum_by g (take (suc i) xs) ≡ sum_by g (take i xs) + g x
  sum_one_more g xs i x e =
      let s : suc i ≡ i + 1 = omega arith in
      ap (λ (n : ℕ). sum_by g (take n xs)) s ∙ ap (sum_by g) (take_one_more xs i x e) ∙ sum_by_push g (take i xs) x

  -- one place has one element
  pub same_get : (xs : List X) (i j : ℕ) (x y : X) → slice_get xs i ≡ Some x → slice_get xs j ≡ Some y → i ≡ j → y ≡ x
  same_get xs i j x y a b e = let there : slice_get xs i ≡ slice_get xs j = ap (slice_get xs) e in cc
