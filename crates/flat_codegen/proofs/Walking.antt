-- What each step of a fold keeps, counted by the steps.
use Rattle.std.proofs.Common.{◌≡◌, ℕ, ◌+◌, suc, zero, List, [], ◌∷◌, Some, refl, subst, length, arith}
use Rattle.std.specs.Prelude.{fold, slice_get}

module _ {A B : Type 0} (step : B → A → B) (P : ℕ → B → Type 0) where
  fold_from : (n : ℕ) (b : B) (xs : List A) → P n b → ((k : ℕ) (x : A) (b : B) → slice_get xs k ≡ Some x → P (n + k) b → P (suc (n + k)) (step b x)) → P (n + length xs) (fold step b xs)
  fold_from n b [] p s = let e : n ≡ n + 0 = omega arith in subst (λ (m : ℕ). P m b) e p
  fold_from n b (x ∷ xs) p s =
      let e : n ≡ n + 0 = omega arith in
      let e' : suc (n + 0) ≡ suc n = omega arith in
      let first : P (suc n) (step b x) = subst (λ (m : ℕ). P m (step b x)) e' (s zero x b refl (subst (λ (m : ℕ). P m b) e p)) in
      let last : suc n + length xs ≡ n + suc (length xs) = omega arith in
      subst (λ (m : ℕ). P m (fold step (step b x) xs)) last
      (fold_from (suc n) (step b x) xs first
      (λ k y c g q.
      let there : suc n + k ≡ n + suc k = omega arith in
      let back : suc (n + suc k) ≡ suc (suc n + k) = omega arith in
      subst (λ (m : ℕ). P m (step c y)) back (s (suc k) y c g (subst (λ (m : ℕ). P m c) there q))))

  pub fold_keeps : (b : B) (xs : List A) → P 0 b → ((k : ℕ) (x : A) (b : B) → slice_get xs k ≡ Some x → P k b → P (suc k) (step b x)) → P (length xs) (fold step b xs)
  fold_keeps b xs p s =
      let last : 0 + length xs ≡ length xs = omega arith in
      subst (λ (m : ℕ). P m (fold step b xs)) last
      (fold_from 0 b xs p
      (λ k x c g q.
      let there : 0 + k ≡ k = omega arith in
      let back : suc k ≡ suc (0 + k) = omega arith in
      subst (λ (m : ℕ). P m (step c x)) back (s k x c g (subst (λ (m : ℕ). P m c) there q))))
