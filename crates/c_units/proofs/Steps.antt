-- A list that is gone through item by item, with what is known so far.
use Rattle.c_units.proofs.Words.Std.{List, [], ap, arith, drop, drop-cons, get_or, length, refl, suc, sym, zero, ℕ, ◌+◌, ◌<◌, ◌∙◌, ◌∷◌, ◌≡◌, ◌≤◌}

module _ {A : Type 0} where
  -- the item at a place, and those behind it
  pub drop_next : (xs : List A) (i : ℕ) (x : A) → i < length xs → x ≡ get_or xs i x → drop i xs ≡ x ∷ drop (i + 1) xs
  drop_next xs i x h is =
      let more : suc i ≡ i + 1 = omega arith in
      drop-cons xs i x h ∙ ap (λ (y : A). y ∷ drop (suc i) xs) (sym is) ∙ ap (λ (n : ℕ). x ∷ drop n xs) more

  pub drop_end : (xs : List A) (i : ℕ) → length xs ≤ i → drop i xs ≡ []
  drop_end [] zero h = refl
  drop_end [] (suc i) h = refl
  drop_end (x ∷ xs) zero h = absurd (omega (arith, h))
  drop_end (x ∷ xs) (suc i) h = drop_end xs i (omega (arith, h))

  module _ {S T : Type 0} (whole : List A → S → T) where
    -- one item less is left, and what it does is known
    pub next_is : (step : A → S → S) → ((x : A) (rest : List A) (s : S) → whole (x ∷ rest) s ≡ whole rest (step x s)) →
        (xs : List A) (i : ℕ) (x : A) (s d : S) → i < length xs → x ≡ get_or xs i x → d ≡ step x s →
        whole (drop (i + 1) xs) d ≡ whole (drop i xs) s
    next_is step by xs i x s d h is known =
        ap (λ (u : S). whole (drop (i + 1) xs) u) known
        ∙ sym (by x (drop (i + 1) xs) s)
        ∙ sym (ap (λ (l : List A). whole l s) (drop_next xs i x h is))

    pub end_is : (xs : List A) (i : ℕ) (s : S) → length xs ≤ i → whole (drop i xs) s ≡ whole [] s
    end_is xs i s h = ap (λ (l : List A). whole l s) (drop_end xs i h)
