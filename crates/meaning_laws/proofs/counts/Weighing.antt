-- Sums over a list by items and their places.
use Rattle.meaning_laws.proofs.Words.Meaning.{is_among}
use Rattle.meaning_laws.proofs.Words.Std.{Bool, List, [], ap, arith, cond, enumerate_from, eq-eqb, false, filter, flat_map, get_or, length, length-append, nat_eq, ne_eqb, refl, subst, suc, sum_by, sum_by-cons, sym, true, zero, ℕ, ◌+◌, ◌<◌, ◌||◌, ◌∷◌, ◌≡◌}

-- each of a list stands there once
abbrev pub Once : List ℕ → Type 0
Once [] = Unit {0}
Once (b ∷ births) = (is_among births b ≡ false) × Once births

length_cond : {B : Type 0} (b : Bool) (x : B) (rest : List B) → length (cond b (x ∷ rest) rest) ≡ cond b 1 0 + length rest
length_cond true x rest = omega arith
length_cond false x rest = omega arith

module _ {A : Type 0} where
  -- the sum of what a function gives for each item and its place, from a place on
  abbrev pub weigh : (ℕ → A → ℕ) → ℕ → List A → ℕ
  weigh f a [] = 0
  weigh f a (x ∷ xs) = f a x + weigh f (a + 1) xs

  -- two lists of one length, with the same at each place
  pub weigh_same : (f g : ℕ → A → ℕ) (a : ℕ) (xs ys : List A) (d : A) → length xs ≡ length ys → ((k : ℕ) → k < length xs → f (a + k) (get_or xs k d) ≡ g (a + k) (get_or ys k d)) → weigh f a xs ≡ weigh g a ys
  weigh_same f g a [] [] d e h = refl
  weigh_same f g a [] (y ∷ ys) d e h = absurd (omega (arith, e))
  weigh_same f g a (x ∷ xs) [] d e h = absurd (omega (arith, e))
  weigh_same f g a (x ∷ xs) (y ∷ ys) d e h =
      let here : a + 0 ≡ a = omega arith in
      let first : f a x ≡ g a y = subst (λ i. f i x ≡ g i y) here (h 0 (omega arith)) in
      let shorter : length xs ≡ length ys = omega (arith, e) in
      let rest : weigh f (a + 1) xs ≡ weigh g (a + 1) ys = weigh_same f g (a + 1) xs ys d shorter (λ k lt. let there : a + suc k ≡ a + 1 + k = omega arith in subst (λ i. f i (get_or xs k d) ≡ g i (get_or ys k d)) there (h (suc k) (omega (arith, lt)))) in
      omega (arith, first, rest)

  pub weigh_both : (f g : ℕ → A → ℕ) (a : ℕ) (xs : List A) → weigh (λ k x. f k x + g k x) a xs ≡ weigh f a xs + weigh g a xs
  weigh_both f g a [] = refl
  weigh_both f g a (x ∷ xs) =
      let rest = weigh_both f g (a + 1) xs in omega (arith, rest)

  pub sum_weigh : (w : A → ℕ) (a : ℕ) (xs : List A) → sum_by w xs ≡ weigh (λ k x. w x) a xs
  sum_weigh w a [] = refl
  sum_weigh w a (x ∷ xs) = omega (arith, sum_by-cons w x xs, sum_weigh w (a + 1) xs)

  pub filter_weigh : (test : ℕ × A → Bool) (a : ℕ) (xs : List A) → length (filter test (enumerate_from a xs)) ≡ weigh (λ k x. cond (test (k, x)) 1 0) a xs
  filter_weigh test a [] = refl
  filter_weigh test a (x ∷ xs) =
      omega (arith, length_cond (test (a, x)) (a, x) (filter test (enumerate_from (a + 1) xs)), filter_weigh test (a + 1) xs)

  pub flat_weigh : {B : Type 0} (f : ℕ × A → List B) (a : ℕ) (xs : List A) → length (flat_map f (enumerate_from a xs)) ≡ weigh (λ k x. length (f (k, x))) a xs
  flat_weigh f a [] = refl
  flat_weigh f a (x ∷ xs) =
      omega (arith, length-append (f (a, x)) (flat_map f (enumerate_from (a + 1) xs)), flat_weigh f (a + 1) xs)

  -- Items at some places

  module _ (w : A → ℕ) (d : A) (none : w d ≡ 0) (test : ℕ → Bool) (b : ℕ) where
    one_past : (a : ℕ) (xs : List A) → b < a → weigh (λ k x. cond (nat_eq b k || test k) (w x) 0) a xs ≡ weigh (λ k x. cond (test k) (w x) 0) a xs
    one_past a [] lt = refl
    one_past a (x ∷ xs) lt =
        let first : cond (nat_eq b a || test a) (w x) 0 ≡ cond (test a) (w x) 0 = ap (λ t. cond (t || test a) (w x) 0) (ne_eqb b a (λ e. omega (arith, e, lt))) in
        omega (arith, first, one_past (a + 1) xs (omega (arith, lt)))

    one_more : test b ≡ false → (a k : ℕ) (xs : List A) → b ≡ a + k → weigh (λ i x. cond (nat_eq b i || test i) (w x) 0) a xs ≡ w (get_or xs k d) + weigh (λ i x. cond (test i) (w x) 0) a xs
    one_more out a k [] e = omega (arith, none)
    one_more out a zero (x ∷ xs) e =
        let same : b ≡ a = omega (arith, e) in
        let first : cond (nat_eq b a || test a) (w x) 0 ≡ w x = ap (λ t. cond (t || test a) (w x) 0) (eq-eqb b a same) in
        let without : cond (test a) (w x) 0 ≡ 0 = ap (λ t. cond t (w x) 0) (subst (λ i. test i ≡ false) same out) in
        omega (arith, first, without, one_past (a + 1) xs (omega (arith, same)))
    one_more out a (suc k) (x ∷ xs) e =
        let first : cond (nat_eq b a || test a) (w x) 0 ≡ cond (test a) (w x) 0 = ap (λ t. cond (t || test a) (w x) 0) (ne_eqb b a (λ i. omega (arith, e, i))) in
        omega (arith, first, one_more out (a + 1) k xs (omega (arith, e)))

  -- the sum over places is that over the items at these places
  pub sum_among : (w : A → ℕ) (d : A) → w d ≡ 0 → (xs : List A) (births : List ℕ) → Once births → sum_by (λ b. w (get_or xs b d)) births ≡ weigh (λ k x. cond (is_among births k) (w x) 0) 0 xs
  sum_among w d none xs [] h = sym (weigh_none 0 xs) where
    weigh_none : (a : ℕ) (xs : List A) → weigh (λ k x. 0) a xs ≡ 0
    weigh_none a [] = refl
    weigh_none a (x ∷ xs) = omega (arith, weigh_none (a + 1) xs)
  sum_among w d none xs (b ∷ births) h =
      let place : b ≡ 0 + b = omega arith in
      omega (arith, sum_by-cons (λ c. w (get_or xs c d)) b births, sum_among w d none xs births h.1, one_more w d none (is_among births) b h.0 0 b xs place)
