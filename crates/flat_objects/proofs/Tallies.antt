-- Sums over lists, and over the numbers below one.
use Rattle.std.proofs.Common.{◌≡◌, ◌<◌, ◌≤◌, ◌+◌, ◌*◌, ◌-◌, ◌⊎◌, inl, inr, ℕ, zero, suc, Bool, true, false, cond, List, [], ◌∷◌, length, get_or, take, refl, sym, ap, ◌∙◌, arith}
use Rattle.std.specs.Prelude.{AllPairs, Contains, IsTrue, nat_eq, sum, ◌≢◌, ◌↔◌}
use Rattle.std.specs.List.{sum_by, count_by, enumerate_from, range_with_len}
use Rattle.std.proofs.lemmas.Bool.{cases_Bool, cases_eq, cases_lt, cond-true, cond-false, ne_eqb, eq-eqb}
use Rattle.std.proofs.Math.Seq.{take-length}
use Rattle.std.proofs.lemmas.List.Sums.{sum_by-cons, sum_by_more}

-- 1 or 0
abbrev pub one_if : Bool → ℕ
one_if b = cond b 1 0

-- Sums over lists

-- four times one sum is no more than another
pub sum_scaled : {X : Type 0} (f g : X → ℕ) (xs : List X) → ((k : ℕ) (d : X) → k < length xs → 4 * f (get_or xs k d) ≤ g (get_or xs k d)) → 4 * sum_by f xs ≤ sum_by g xs
sum_scaled f g [] each = omega arith
sum_scaled f g (x ∷ xs) each =
    let first : 4 * f x ≤ g x = each 0 x (omega arith) in
    let rest = sum_scaled f g xs (λ k d less. each (suc k) d (omega arith)) in
    let one = sum_by-cons f x xs in
    let two = sum_by-cons g x xs in
    omega arith

-- the sum over a list is that over its items with their places
pub sum_enumerated : {X : Type 0} (f : X → ℕ) (n : ℕ) (xs : List X) → sum_by (λ (one : ℕ × X). f one.1) (enumerate_from n xs) ≡ sum_by f xs
sum_enumerated f n [] = refl
sum_enumerated f n (x ∷ xs) =
    let one = sum_by-cons f x xs in
    let two = sum_by-cons (λ (one : ℕ × _). f one.1) (n, x) (enumerate_from (n + 1) xs) in
    let rest = sum_enumerated f (n + 1) xs in
    omega arith

-- the sum of ones is the length
pub sum_ones : {X : Type 0} (xs : List X) → sum_by (λ x. 1) xs ≡ length xs
sum_ones [] = refl
sum_ones (x ∷ xs) = let one = sum_by-cons (λ x. 1) x xs in let rest = sum_ones xs in omega arith

-- two sums of which one has no more of each item
pub sum_less : {X : Type 0} (f g : X → ℕ) (xs : List X) → ((x : X) → f x ≤ g x) → sum_by f xs ≤ sum_by g xs
sum_less f g [] each = omega arith
sum_less f g (x ∷ xs) each =
    let first = each x in
    let rest = sum_less f g xs each in
    let one = sum_by-cons f x xs in
    let two = sum_by-cons g x xs in
    omega arith

-- at most one of a list passes a test that no two pass
pub count_one : {X : Type 0} (p : X → Bool) (xs : List X) → ((i j : ℕ) (d e : X) → i < j → j < length xs → p (get_or xs i d) ≡ true → p (get_or xs j e) ≡ true → ⊥) → count_by p xs ≤ 1
count_one p [] alone = omega arith
count_one p (x ∷ xs) alone =
    let rest = count_one p xs (λ i j d e less inside. alone (suc i) (suc j) d e (omega arith) (omega arith)) in
    let step = sum_by-cons (λ x. cond (p x) 1 0) x xs in
    elim (cases_Bool (p x)) [
      | inr out ↦ let here : one_if (p x) ≡ 0 = cond-false (p x) 1 0 out in omega arith
      | inl yes_first ↦
          let none = count_none p xs (λ j e inside. alone 0 (suc j) x e (omega arith) (omega arith) yes_first) in
          let here : one_if (p x) ≡ 1 = cond-true (p x) 1 0 yes_first in
          omega arith
    ] where
      count_none : {X : Type 0} (p : X → Bool) (xs : List X) → ((j : ℕ) (e : X) → j < length xs → p (get_or xs j e) ≡ true → ⊥) → count_by p xs ≡ 0
      count_none p [] never = refl
      count_none p (x ∷ xs) never =
          let rest = count_none p xs (λ j e inside. never (suc j) e (omega arith)) in
          let step = sum_by-cons (λ x. cond (p x) 1 0) x xs in
          elim (cases_Bool (p x)) [
            | inr out ↦ let here : one_if (p x) ≡ 0 = cond-false (p x) 1 0 out in omega arith
            | inl yes_first ↦ absurd (never 0 x (omega arith) yes_first)
          ]

-- Sums over the numbers below one

abbrev pub sum_to : (ℕ → ℕ) → ℕ → ℕ
sum_to f zero = 0
sum_to f (suc n) = sum_to f n + f n

pub sum_to_same : (f g : ℕ → ℕ) (n : ℕ) → ((m : ℕ) → m < n → f m ≡ g m) → sum_to f n ≡ sum_to g n
sum_to_same f g zero same = refl
sum_to_same f g (suc n) same =
    let here = same n (omega arith) in
    let rest = sum_to_same f g n (λ m less. same m (omega arith)) in
    omega arith

pub sum_to_both : (f g : ℕ → ℕ) (n : ℕ) → sum_to (λ m. f m + g m) n ≡ sum_to f n + sum_to g n
sum_to_both f g zero = refl
sum_to_both f g (suc n) = let rest = sum_to_both f g n in omega arith

pub sum_to_ones : (f : ℕ → ℕ) (n : ℕ) → ((m : ℕ) → m < n → f m ≤ 1) → sum_to f n ≤ n
sum_to_ones f zero each = omega arith
sum_to_ones f (suc n) each =
    let here = each n (omega arith) in
    let rest = sum_to_ones f n (λ m less. each m (omega arith)) in
    omega arith

-- where a test holds from one number up to another, its numbers below the other are as many as that
pub span_to : (p : ℕ → Bool) (start n : ℕ) → ((m : ℕ) → start ≤ m → m < n → p m ≡ true) → n - start ≤ sum_to (λ m. one_if (p m)) n
span_to p start zero each = omega arith
span_to p start (suc n) each =
    elim (cases_lt n start) [
      | inl h ↦ omega arith
      | inr h ↦
          let here : one_if (p n) ≡ 1 = cond-true (p n) 1 0 (each n h (omega arith)) in
          let rest = span_to p start n (λ m low high. each m low (omega arith)) in
          omega arith
    ]

pub sum_to_longer : (f : ℕ → ℕ) (n m : ℕ) → n ≤ m → sum_to f n ≤ sum_to f m
sum_to_longer f n zero less = let e : n ≡ 0 = omega arith in let same : sum_to f n ≡ 0 = ap (sum_to f) e in omega arith
sum_to_longer f n (suc m) less =
    elim (cases_lt n (suc m)) [
      | inl h ↦ let rest = sum_to_longer f n m (omega arith) in omega arith
      | inr h ↦ let e : n ≡ suc m = omega arith in let same : sum_to f n ≡ sum_to f (suc m) = ap (sum_to f) e in omega arith
    ]

pub sum_to_none : (n : ℕ) → sum_to (λ m. 0) n ≡ 0
sum_to_none zero = refl
sum_to_none (suc n) = let rest = sum_to_none n in omega arith

-- the sum over numbers of sums over a list is the sum over the list of sums over numbers
pub sums_swapped : {X : Type 0} (w : ℕ → X → ℕ) (xs : List X) (n : ℕ) → sum_to (λ m. sum_by (w m) xs) n ≡ sum_by (λ x. sum_to (λ m. w m x) n) xs
sums_swapped w [] n = sum_to_none n
sums_swapped w (x ∷ xs) n =
    let apart = sum_to_same (λ m. sum_by (w m) (x ∷ xs)) (λ m. w m x + sum_by (w m) xs) n (λ m less. sum_by-cons (w m) x xs) in
    let both = sum_to_both (λ m. w m x) (λ m. sum_by (w m) xs) n in
    let rest = sums_swapped w xs n in
    let one = sum_by-cons (λ x. sum_to (λ m. w m x) n) x xs in
    omega arith

-- the sum of a list is that of its numbers
sum_taken : (xs : List ℕ) (n : ℕ) → n ≤ length xs → sum (take n xs) ≡ sum_to (λ k. get_or xs k 0) n
sum_taken xs zero inside = refl
sum_taken xs (suc n) inside =
    let more = sum_by_more (λ x. x) xs n 0 (omega arith) in
    let e : n + 1 ≡ suc n = omega arith in
    let same : sum (take (n + 1) xs) ≡ sum (take (suc n) xs) = ap (λ m. sum (take m xs)) e in
    let rest = sum_taken xs n (omega arith) in
    omega arith

pub sum_listed : (xs : List ℕ) → sum xs ≡ sum_to (λ k. get_or xs k 0) (length xs)
sum_listed xs = ap sum (sym (take-length xs)) ∙ sum_taken xs (length xs) (omega arith)

-- one number is met once, where it is among those
pub met_once : (a n : ℕ) → sum_to (λ m. cond (nat_eq a m) 1 0) n ≤ 1
met_once a n =
    elim (cases_lt a n) [
      | inl h ↦ let e = met_there a n h in omega arith
      | inr h ↦ let e = met_never a n h in omega arith
    ] where
      met_never : (a n : ℕ) → n ≤ a → sum_to (λ m. cond (nat_eq a m) 1 0) n ≡ 0
      met_never a zero past = refl
      met_never a (suc n) past =
          let here : one_if (nat_eq a n) ≡ 0 = cond-false (nat_eq a n) 1 0 (ne_eqb a n (λ e. omega arith)) in
          let rest = met_never a n (omega arith) in
          omega arith

      met_there : (a n : ℕ) → a < n → sum_to (λ m. cond (nat_eq a m) 1 0) n ≡ 1
      met_there a zero less = absurd (omega arith)
      met_there a (suc n) less =
          elim (cases_lt a n) [
            | inl h ↦
                let here : one_if (nat_eq a n) ≡ 0 = cond-false (nat_eq a n) 1 0 (ne_eqb a n (λ e. omega arith)) in
                let rest = met_there a n h in
                omega arith
            | inr h ↦
                let e : a ≡ n = omega arith in
                let here : one_if (nat_eq a n) ≡ 1 = cond-true (nat_eq a n) 1 0 (eq-eqb a n e) in
                let rest = met_never a n (omega arith) in
                omega arith
          ]

-- Sums over lists that go together

pub sum_zipped : {X Y : Type 0} (f : X → ℕ) (g : Y → ℕ) (xs : List X) (ys : List Y) (d : X) (e : Y) → length xs ≡ length ys → ((k : ℕ) → k < length xs → f (get_or xs k d) ≡ g (get_or ys k e)) → sum_by f xs ≡ sum_by g ys
sum_zipped f g [] [] d e long each = refl
sum_zipped f g [] (y ∷ ys) d e long each = absurd (omega arith)
sum_zipped f g (x ∷ xs) [] d e long each = absurd (omega arith)
sum_zipped f g (x ∷ xs) (y ∷ ys) d e long each =
    let first : f x ≡ g y = each 0 (omega arith) in
    let rest = sum_zipped f g xs ys d e (omega arith) (λ k less. each (suc k) (omega arith)) in
    let one = sum_by-cons f x xs in
    let two = sum_by-cons g y ys in
    omega arith

-- the sum over a list is that over its places
pub sum_placed : {X : Type 0} (f : X → ℕ) (xs : List X) (d : X) → sum_by f xs ≡ sum_to (λ k. f (get_or xs k d)) (length xs)
sum_placed f xs d = ap (sum_by f) (sym (take-length xs)) ∙ taken (length xs) (omega arith) where
  taken : (n : ℕ) → n ≤ length xs → sum_by f (take n xs) ≡ sum_to (λ k. f (get_or xs k d)) n
  taken zero inside = refl
  taken (suc n) inside =
      let more = sum_by_more f xs n d (omega arith) in
      let e : n + 1 ≡ suc n = omega arith in
      let same : sum_by f (take (n + 1) xs) ≡ sum_by f (take (suc n) xs) = ap (λ m. sum_by f (take m xs)) e in
      let rest = taken n (omega arith) in
      omega arith

-- the sum over the numbers from one on
pub sum_ranged : (f : ℕ → ℕ) (a n : ℕ) → sum_by f (range_with_len a n) ≡ sum_to (λ k. f (a + k)) n
sum_ranged f a zero = refl
sum_ranged f a (suc n) =
    let step = sum_by-cons f a (range_with_len (a + 1) n) in
    let rest = sum_ranged f (a + 1) n in
    let shift = shifted (λ k. f (a + k)) n in
    let here : f (a + 0) ≡ f a = (let e : a + 0 ≡ a = omega arith in ap f e) in
    let same = sum_to_same (λ k. f (a + 1 + k)) (λ k. f (a + suc k)) n (λ m less. let e : a + 1 + m ≡ a + suc m = omega arith in ap f e) in
    omega arith where
      shifted : (g : ℕ → ℕ) (n : ℕ) → sum_to g (suc n) ≡ g 0 + sum_to (λ k. g (suc k)) n
      shifted g zero = omega arith
      shifted g (suc n) = let rest = shifted g n in omega arith

-- a value where one number is met
pub met_value : (f : ℕ → ℕ) (b n : ℕ) → b < n → sum_to (λ k. cond (nat_eq b k) (f k) 0) n ≡ f b
met_value f b zero less = absurd (omega arith)
met_value f b (suc n) less =
    elim (cases_lt b n) [
      | inl h ↦
          let here : cond (nat_eq b n) (f n) 0 ≡ zero = cond-false (nat_eq b n) (f n) 0 (ne_eqb b n (λ e. omega arith)) in
          let rest = met_value f b n h in
          omega arith
      | inr h ↦
          let e : b ≡ n = omega arith in
          let here : cond (nat_eq b n) (f n) 0 ≡ f n = cond-true (nat_eq b n) (f n) 0 (eq-eqb b n e) in
          let same : f n ≡ f b = ap f (sym e) in
          let rest = before f b n h in
          omega arith
    ] where
      before : (f : ℕ → ℕ) (b n : ℕ) → n ≤ b → sum_to (λ k. cond (nat_eq b k) (f k) 0) n ≡ 0
      before f b zero past = refl
      before f b (suc n) past =
          let here : cond (nat_eq b n) (f n) 0 ≡ zero = cond-false (nat_eq b n) (f n) 0 (ne_eqb b n (λ e. omega arith)) in
          let rest = before f b n (omega arith) in
          omega arith

-- one number is not among those from another on, or it is one of them
pub met_out : (y a n : ℕ) → (y < a) ⊎ (a + n ≤ y) → sum_to (λ k. one_if (nat_eq y (a + k))) n ≡ 0
met_out y a zero out = refl
met_out y a (suc n) out =
    let differ : y ≡ a + n → ⊥ = λ e. elim out [ inl h ↦ omega arith | inr h ↦ omega arith ] in
    let here : one_if (nat_eq y (a + n)) ≡ 0 = ap one_if (ne_eqb y (a + n) differ) in
    let less : (y < a) ⊎ (a + n ≤ y) = elim out [ inl h ↦ inl h | inr h ↦ inr (omega arith) ] in
    let rest = met_out y a n less in
    omega arith

pub met_in : (y a n : ℕ) → a ≤ y → y < a + n → sum_to (λ k. one_if (nat_eq y (a + k))) n ≡ 1
met_in y a zero low high = absurd (omega arith)
met_in y a (suc n) low high =
    elim (cases_lt y (a + n)) [
      | inl h ↦
          let here : one_if (nat_eq y (a + n)) ≡ 0 = ap one_if (ne_eqb y (a + n) (λ e. omega arith)) in
          let rest = met_in y a n low h in
          omega arith
      | inr h ↦
          let e : y ≡ a + n = omega arith in
          let here : one_if (nat_eq y (a + n)) ≡ 1 = ap one_if (eq-eqb y (a + n) e) in
          let rest = met_out y a n (inr h) in
          omega arith
    ]

picked_none : (births : List ℕ) (k v : ℕ) → (Contains births k → ⊥) → sum_by (λ b. cond (nat_eq b k) v 0) births ≡ 0
picked_none [] k v never = refl
picked_none (b ∷ births) k v never =
    let step = sum_by-cons (λ b. cond (nat_eq b k) v 0) b births in
    let here : cond (nat_eq b k) v 0 ≡ zero = cond-false (nat_eq b k) v 0 (ne_eqb b k (λ e. never (0, omega arith, e))) in
    let rest = picked_none births k v (λ at. never (suc at.0, omega (arith, at.1), at.2)) in
    omega arith

-- a value for each number of a list without repetitions that is a certain one
pub picked : (births : List ℕ) (k v : ℕ) (t : Bool) → AllPairs (λ a b. a ≢ b) births → (Contains births k ↔ IsTrue t) → sum_by (λ b. cond (nat_eq b k) v 0) births ≡ cond t v 0
picked births k v true distinct is = one births k v distinct (is.1 refl) where
  one : (births : List ℕ) (k v : ℕ) → AllPairs (λ a b. a ≢ b) births → Contains births k → sum_by (λ b. cond (nat_eq b k) v 0) births ≡ v
  one [] k v distinct at = absurd (omega (arith, at.1))
  one (b ∷ births) k v distinct at =
      let step = sum_by-cons (λ b. cond (nat_eq b k) v 0) b births in
      elim (cases_eq b k) [
        | inl e ↦
            let here : cond (nat_eq b k) v 0 ≡ v = cond-true (nat_eq b k) v 0 (eq-eqb b k e) in
            let rest = picked_none births k v (λ later. distinct 0 (suc later.0) k (omega arith) (omega (arith, later.1)) (e ∙ sym later.2)) in
            omega arith
        | inr differ ↦
            let here : cond (nat_eq b k) v 0 ≡ zero = cond-false (nat_eq b k) v 0 (ne_eqb b k differ) in
            let rest = one births k v (λ i j d less inside. distinct (suc i) (suc j) d (omega arith) (omega arith)) (later b births k differ at) in
            omega arith
      ] where
        later : (b : ℕ) (births : List ℕ) (k : ℕ) → (b ≡ k → ⊥) → Contains (b ∷ births) k → Contains births k
        later b births k differ (zero, less, is) = absurd (differ is)
        later b births k differ (suc i, less, is) = (i, omega arith, is)
picked births k v false distinct is = picked_none births k v (λ at. clash (is.0 at)) where
  clash : false ≡ true → ⊥
  clash e = cc
