-- Elements with their numbers.
use Rattle.std.proofs.Common.{◌≡◌, ℕ, zero, suc, ◌+◌, List, [], ◌∷◌, ◌++◌, Some, ◌∙◌, ap, take, arith}
use Rattle.std.specs.Prelude.{slice_get}
use Rattle.std.specs.List.{flat_map, enumerate_from}
use Rattle.std.proofs.lemmas.List.{append-nil}
use Rattle.std.proofs.lemmas.List.Concat.{flat_map-append}
use Rattle.std.proofs.lemmas.Option.{same_Some}

module _ {X : Type 0} where
  -- an element has the number of its place
  pub numbered_at : (a : ℕ) (xs : List X) (k : ℕ) (at : ℕ × X) → slice_get (enumerate_from a xs) k ≡ Some at → (at.0 ≡ a + k) × (slice_get xs k ≡ Some at.1)
  numbered_at a [] k at e = absurd (cc)
  numbered_at a (x ∷ xs) zero at e =
      let same = same_Some (a, x) at e in
      (omega (arith, ap (λ (y : ℕ × X). y.0) same), ap (λ (y : ℕ × X). Some y.1) same)
  numbered_at a (x ∷ xs) (suc k) at e = let rest = numbered_at (a + 1) xs k at e in (omega (arith, rest.0), rest.1)

  -- one element more
  numbered_more : (a : ℕ) (xs : List X) (k : ℕ) (x : X) → slice_get xs k ≡ Some x → enumerate_from a (take (k + 1) xs) ≡ enumerate_from a (take k xs) ++ (a + k, x) ∷ []
  numbered_more a [] k x e = absurd (cc)
  numbered_more a (y ∷ xs) zero x e =
      let number : a ≡ a + 0 = omega arith in
      let same : y ≡ x = same_Some y x e in
      λ i. (number i, same i) ∷ []
  numbered_more a (y ∷ xs) (suc k) x e =
      let next : suc k + 1 ≡ suc (k + 1) = omega arith in
      let number : a + 1 + k ≡ a + suc k = omega arith in
      ap (λ n. enumerate_from a (take n (y ∷ xs))) next
      ∙ ap (λ (rest : List (ℕ × X)). (a, y) ∷ rest) (numbered_more (a + 1) xs k x e ∙ ap (λ n. enumerate_from (a + 1) (take k xs) ++ (n, x) ∷ []) number)

  -- the same from the first number on
  pub numbered_next : (xs : List X) (n : ℕ) (x : X) → slice_get xs n ≡ Some x → enumerate_from 0 (take (suc n) xs) ≡ enumerate_from 0 (take n xs) ++ (n, x) ∷ []
  numbered_next xs n x e =
      let next : suc n ≡ n + 1 = omega arith in
      let number : 0 + n ≡ n = omega arith in
      ap (λ k. enumerate_from 0 (take k xs)) next ∙ numbered_more 0 xs n x e ∙ ap (λ k. enumerate_from 0 (take n xs) ++ (k, x) ∷ []) number

  -- what is made of all elements with their numbers, one element more
  pub made_next : {Y : Type 0} (made : ℕ × X → List Y) (xs : List X) (n : ℕ) (x : X) → slice_get xs n ≡ Some x → flat_map made (enumerate_from 0 (take (suc n) xs)) ≡ flat_map made (enumerate_from 0 (take n xs)) ++ made (n, x)
  made_next made xs n x e =
      let before = enumerate_from 0 (take n xs) in
      ap (flat_map made) (numbered_next xs n x e) ∙ flat_map-append made before ((n, x) ∷ []) ∙ ap (λ ys. flat_map made before ++ ys) (append-nil (made (n, x)))
