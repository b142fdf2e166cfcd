-- The slots below an offset and those within a range, as the definition of accesses lists them.
use Rattle.std.proofs.Common.{◌≡◌, ◌<◌, ◌≤◌, ◌+◌, ◌-◌, ◌*◌, inl, inr, ℕ, zero, suc, Bool, true, false, List, [], ◌∷◌, length, get_or, take, drop, refl, sym, ap, ◌∙◌, subst, arith, length-take, length-drop, get_or-take, get_or-drop}
use Rattle.std.specs.Prelude.{nat_lt, nat_le, nat_eq, ◌&&◌, filter}
use Rattle.std.proofs.lemmas.Bool.{and_from, and_left, and_parts, and_right, cases_lt, cond-false, cond-true, eq-eqb, eqb-true, false_from_ne_true, le-leb, le-ltb, lt-leb, lt-ltb}
use Rattle.std.proofs.lemmas.List.{ext_get_or, get_or-map, length-map, nil_from_length}
use Rattle.hs_base.specs.Access.{distances, same_numbers, slots_below, slots_within}
use Rattle.typed_copies.specs.declared.slots.Within.{Within}
use Rattle.typed_copies.specs.Slots.{AreWithin, AtSameDistances}
use Rattle.typed_copies.proofs.Ascending.{Ascend, slots_apart}

-- slots of which so many begin below an offset
pub counted : (xs : List ℕ) (x m : ℕ) → m ≤ length xs → ((k : ℕ) → k < m → get_or xs k 0 < x) → ((k : ℕ) → m ≤ k → k < length xs → x ≤ get_or xs k 0) → length (slots_below xs x) ≡ m
counted [] x m inside below above = omega arith
counted (s ∷ ss) x zero inside below above =
    let here : x ≤ s = above 0 (omega arith) (omega arith) in
    ap length (cond-false (nat_lt s x) (s ∷ slots_below ss x) (slots_below ss x) (le-ltb s x here))
    ∙ counted ss x zero (omega arith) (λ k less. absurd (omega arith)) (λ k more within. above (suc k) (omega arith) (omega arith))
counted (s ∷ ss) x (suc m) inside below above =
    let here : s < x = below 0 (omega arith) in
    ap length (cond-true (nat_lt s x) (s ∷ slots_below ss x) (slots_below ss x) (lt-ltb s x here))
    ∙ ap suc (counted ss x m (omega arith) (λ k less. below (suc k) (omega arith)) (λ k more within. above (suc k) (omega arith) (omega arith)))

-- what passes a test is one run of the list
filter_run : (p : ℕ → Bool) (xs : List ℕ) (f c : ℕ) → f + c ≤ length xs → ((k : ℕ) → k < f → p (get_or xs k 0) ≡ false) → ((k : ℕ) → k < c → p (get_or xs (f + k) 0) ≡ true) → ((k : ℕ) → f + c ≤ k → k < length xs → p (get_or xs k 0) ≡ false)
    → filter p xs ≡ take c (drop f xs)
filter_run p [] f c inside before within behind = sym (nil_from_length (take c (drop f [])) (omega (arith, length-take {A = ℕ} c (drop f []), length-drop {A = ℕ} f [])))
filter_run p (x ∷ xs) zero zero inside before within behind =
    cond-false (p x) (x ∷ filter p xs) (filter p xs) (behind 0 (omega arith) (omega arith))
    ∙ filter_run p xs zero zero (omega arith) (λ k less. absurd (omega arith)) (λ k less. absurd (omega arith)) (λ k more less. behind (suc k) (omega arith) (omega arith))
filter_run p (x ∷ xs) zero (suc c) inside before within behind =
    let at = λ (k : ℕ) (less : k < suc c). let e : 0 + k ≡ k = omega arith in subst (λ (i : ℕ). p (get_or (x ∷ xs) i 0) ≡ true) e (within k less) in
    cond-true (p x) (x ∷ filter p xs) (filter p xs) (at 0 (omega arith))
    ∙ ap (λ l. x ∷ l) (filter_run p xs zero c (omega arith) (λ k less. absurd (omega arith)) (λ k less. let e : k ≡ 0 + k = omega arith in subst (λ (i : ℕ). p (get_or xs i 0) ≡ true) e (at (suc k) (omega arith))) (λ k more less. behind (suc k) (omega arith) (omega arith)))
filter_run p (x ∷ xs) (suc f) c inside before within behind =
    cond-false (p x) (x ∷ filter p xs) (filter p xs) (before 0 (omega arith))
    ∙ filter_run p xs f c (omega arith) (λ k less. before (suc k) (omega arith)) (λ k less. let e : suc f + k ≡ suc (f + k) = omega arith in subst (λ (i : ℕ). p (get_or (x ∷ xs) i 0) ≡ true) e (within k less)) (λ k more less. behind (suc k) (omega arith) (omega arith))

module _ (slots : List ℕ) (offset n : ℕ) (w : Within) (are : AreWithin slots offset n w) where
  -- every slot from the first on begins at the offset or behind it
  pub from_first : (k : ℕ) → w.first ≤ k → k < length slots → offset ≤ get_or slots k 0
  from_first k more inside =
      elim (cases_lt k (w.first + w.count)) [
        | inl less ↦ let e : w.first + (k - w.first) ≡ k = omega arith in subst (λ (i : ℕ). offset ≤ get_or slots i 0) e (are.low (k - w.first) (omega arith))
        | inr past ↦ let far = are.behind k past inside in omega arith
      ]

  -- so many slots begin below the offset
  pub first_is : length (slots_below slots offset) ≡ w.first
  first_is =
      let within = are.inside in
      counted slots offset w.first (omega arith) (λ k less. let ends = are.before k less in omega arith) from_first

  -- the slots within the range follow one another
  pub within_is : slots_within slots offset n ≡ take w.count (drop w.first slots)
  within_is =
      filter_run (λ s. nat_le offset s && nat_le (s + 4) (offset + n)) slots w.first w.count are.inside
      (λ k less. let s = get_or slots k 0 in let ends = are.before k less in and_left (nat_le offset s) (nat_le (s + 4) (offset + n)) (lt-leb offset s (omega arith)))
      (λ k less. let s = get_or slots (w.first + k) 0 in and_from (nat_le offset s) (nat_le (s + 4) (offset + n)) (le-leb offset s (are.low k less)) (le-leb (s + 4) (offset + n) (are.high k less)))
      (λ k more inside. let s = get_or slots k 0 in let far = are.behind k more inside in and_right (nat_le offset s) (nat_le (s + 4) (offset + n)) (lt-leb (s + 4) (offset + n) (omega arith)))

  -- how many follow one another
  run_len : length (take w.count (drop w.first slots)) ≡ w.count
  run_len = let within = are.inside in length-take w.count (drop w.first slots) ∙ omega (arith, length-drop w.first slots)

  -- how many lie within the range
  pub many_within : length (slots_within slots offset n) ≡ w.count
  many_within = ap length within_is ∙ run_len

  -- how many distances there are
  pub distances_len : length (distances slots offset n) ≡ w.count
  distances_len = length-map (slots_within slots offset n) (λ s. s - offset) ∙ many_within

  -- the distance of one of them
  pub distance_at : (k : ℕ) → k < w.count → get_or (distances slots offset n) k 0 ≡ get_or slots (w.first + k) 0 - offset
  distance_at k less =
      get_or-map (λ s. s - offset) (slots_within slots offset n) k 0 0 (omega (arith, many_within))
      ∙ ap (λ l. get_or l k 0 - offset) within_is
      ∙ ap (λ s. s - offset) (get_or-take w.count (drop w.first slots) k 0 less ∙ get_or-drop w.first slots k 0)

-- slots have 4 bytes each, so few lie within a range
module _ (size : ℕ) (slots : List ℕ) (offset n : ℕ) (w : Within) (are : AreWithin slots offset n w) (ascend : Ascend 0 size slots) where
  -- each stands 4 bytes further at least
  spread : (k : ℕ) → k < w.count → offset + 4 * k ≤ get_or slots (w.first + k) 0
  spread zero less = let low = are.low 0 less in omega arith
  spread (suc k) less =
      let before = spread k (omega arith) in
      let apart = slots_apart 0 size slots (w.first + k) (w.first + suc k) 0 ascend (omega arith) (let within = are.inside in omega arith) in
      omega arith

  -- a range has a slot for each 4 bytes at most
  pub few_within : 4 * w.count ≤ n
  few_within =
      elim (cases_lt 0 w.count) [
        | inr none ↦ omega arith
        | inl some ↦ let last = spread (w.count - 1) (omega arith) in let ends = are.high (w.count - 1) (omega arith) in omega arith
      ]

-- Distances

-- numbers are the same as themselves
same_refl : (xs : List ℕ) → same_numbers xs xs ≡ true
same_refl [] = refl
same_refl (x ∷ xs) = and_from (nat_eq x x) (same_numbers xs xs) (eq-eqb x x refl) (same_refl xs)

-- numbers that are the same are equal
numbers_same : (xs ys : List ℕ) → same_numbers xs ys ≡ true → xs ≡ ys
numbers_same [] [] h = refl
numbers_same [] (y ∷ ys) h = cc
numbers_same (x ∷ xs) [] h = cc
numbers_same (x ∷ xs) (y ∷ ys) h =
    let both = and_parts (nat_eq x y) (same_numbers xs ys) h in
    let first = eqb-true x y both.0 in
    let rest = numbers_same xs ys both.1 in
    λ i. first i ∷ rest i

module _ (d : List ℕ) (to : ℕ) (s : List ℕ) (from n : ℕ) (into out : Within) (written : AreWithin d to n into) (read : AreWithin s from n out) where
  -- slots at the same distances agree
  pub distances_agree : AtSameDistances d to into s from out → same_numbers (distances d to n) (distances s from n) ≡ true
  distances_agree at =
      let len_d = distances_len d to n into written in
      let len_s = distances_len s from n out read in
      let e : distances d to n ≡ distances s from n = ext_get_or 0 (distances d to n) (distances s from n) (omega (arith, at.many)) (λ k less. let here : k < into.count = omega arith in distance_at d to n into written k here ∙ at.same k here ∙ sym (distance_at s from n out read k (omega (arith, at.many)))) in
      subst (λ (l : List ℕ). same_numbers (distances d to n) l ≡ true) e (same_refl (distances d to n))

  -- slots at other distances do not
  pub distances_differ : (AtSameDistances d to into s from out → ⊥) → same_numbers (distances d to n) (distances s from n) ≡ false
  distances_differ differ =
      let len_d = distances_len d to n into written in
      let len_s = distances_len s from n out read in
      false_from_ne_true (same_numbers (distances d to n) (distances s from n)) (λ h.
      let e = numbers_same (distances d to n) (distances s from n) h in
      let many : out.count ≡ into.count = omega (arith, ap length e) in
      differ (record {
        many = many;
        same = λ k less. sym (distance_at d to n into written k less) ∙ ap (λ l. get_or l k 0) e ∙ distance_at s from n out read k (omega arith);
      }))
