-- The least of some numbers above one.
use Rattle.std.proofs.Common.{◌≡◌, ◌<◌, ◌≤◌, ◌∙◌, ◌⊎◌, inl, inr, ℕ, zero, suc, Bool, true, Option, Some, None, List, [], ◌∷◌, refl, sym, ap, subst, arith}
use Rattle.std.specs.Prelude.{Contains, filter, fold, min, nat_lt}
use Rattle.std.specs.List.{reduce}
use Rattle.std.proofs.lemmas.Bool.{cases_lt, cond-true, cond_both, lt-ltb, ltb-true}
use Rattle.std.proofs.lemmas.List.Elements.{All-contains, All-contains_itself, All-filter, filter_passes}
use Rattle.flat_objects.proofs.Members.{contains_first, contains_more}

-- the least number above one of those that are so
abbrev pub IsLeastAbove : (ℕ → Type 0) → ℕ → Option ℕ → Type 0
IsLeastAbove P after None = (n : ℕ) → P n → n ≤ after
IsLeastAbove P after (Some least) = P least × (after < least) × ((n : ℕ) → P n → after < n → least ≤ n)

-- it is the same where the same numbers are so
pub least_same : (P Q : ℕ → Type 0) (after : ℕ) (found : Option ℕ) → ((n : ℕ) → P n → Q n) → ((n : ℕ) → Q n → P n) → IsLeastAbove P after found → IsLeastAbove Q after found
least_same P Q after None up down is = λ n so. is n (down n so)
least_same P Q after (Some least) up down is = (up least is.0, is.1, λ n so above. is.2 n (down n so) above)

-- one number more, that is above and less than any other above
least_taken : (P Q : ℕ → Type 0) (after line : ℕ) → Q line → ((n : ℕ) → Q n → P n ⊎ (n ≡ line)) → after < line → ((n : ℕ) → P n → after < n → line ≤ n) → IsLeastAbove Q after (Some line)
least_taken P Q after line so down above less = (
  so,
  above,
  λ n n_so n_above. elim (down n n_so) [ inl h ↦ less n h n_above | inr e ↦ omega arith ],
)

-- one number more, that is not above
pub least_beside : (P Q : ℕ → Type 0) (after line : ℕ) (found : Option ℕ) → ((n : ℕ) → P n → Q n) → ((n : ℕ) → Q n → P n ⊎ (n ≡ line)) → line ≤ after → IsLeastAbove P after found → IsLeastAbove Q after found
least_beside P Q after line None up down low is = λ n so.
    elim (down n so) [ inl h ↦ is n h | inr e ↦ omega arith ]
least_beside P Q after line (Some least) up down low is = (
  up least is.0,
  is.1,
  λ n so above. elim (down n so) [ inl h ↦ is.2 n h above | inr e ↦ absurd (omega arith) ],
)

pub least_first : (P Q : ℕ → Type 0) (after line : ℕ) → Q line → ((n : ℕ) → Q n → P n ⊎ (n ≡ line)) → after < line → IsLeastAbove P after None → IsLeastAbove Q after (Some line)
least_first P Q after line so down above is =
    least_taken P Q after line so down above (λ n n_so n_above. let low = is n n_so in absurd (omega arith))

pub least_more : (P Q : ℕ → Type 0) (after line least : ℕ) → ((n : ℕ) → P n → Q n) → Q line → ((n : ℕ) → Q n → P n ⊎ (n ≡ line)) → after < line → IsLeastAbove P after (Some least) → IsLeastAbove Q after (Some (min least line))
least_more P Q after line least up so down above is =
    elim (cases_lt line least) [
      | inl h ↦
          let e : line ≡ min least line = omega arith in
          subst (λ (m : ℕ). IsLeastAbove Q after (Some m)) e
          (least_taken P Q after line so down above (λ n n_so n_above. let low = is.2 n n_so n_above in omega arith))
      | inr h ↦
          let e : least ≡ min least line = omega arith in
          let kept : IsLeastAbove Q after (Some least) = (up least is.0, is.1, λ n n_so n_above. elim (down n n_so) [ inl l ↦ is.2 n l n_above | inr same ↦ omega arith ]) in
          subst (λ (m : ℕ). IsLeastAbove Q after (Some m)) e kept
    ]

-- there is only one
pub least_one : (P : ℕ → Type 0) (after : ℕ) (a b : Option ℕ) → IsLeastAbove P after a → IsLeastAbove P after b → a ≡ b
least_one P after None None is_a is_b = refl
least_one P after None (Some b) is_a is_b = let low = is_a b is_b.0 in absurd (omega (arith, is_b.1))
least_one P after (Some a) None is_a is_b = let low = is_b a is_a.0 in absurd (omega (arith, is_a.1))
least_one P after (Some a) (Some b) is_a is_b =
    let one = is_a.2 b is_b.0 is_b.1 in
    let other = is_b.2 a is_a.0 is_a.1 in
    let e : a ≡ b = omega arith in
    ap Some e

-- The least of a list

-- the fold by the lesser of two is one of the numbers, and no more than any
record IsLeastOf (first : ℕ) (rest : List ℕ) (least : ℕ) : Type 0 where
  among : Contains (first ∷ rest) least
  below : (n : ℕ) → Contains (first ∷ rest) n → least ≤ n

fold_more : (first x : ℕ) (rest : List ℕ) (least : ℕ) → IsLeastOf (min first x) rest least → IsLeastOf first (x ∷ rest) least
fold_more first x rest least more = record { among = found more.among; below = low } where
  found : Contains (min first x ∷ rest) least → Contains (first ∷ x ∷ rest) least
  found (zero, less, is) =
      elim (cases_lt x first) [
        | inl h ↦ let e : x ≡ least = omega arith in (1, omega arith, e)
        | inr h ↦ let e : first ≡ least = omega arith in (0, omega arith, e)
      ]
  found (suc k, less, is) = (suc (suc k), omega arith, is)

  low : (n : ℕ) → Contains (first ∷ x ∷ rest) n → least ≤ n
  low n (zero, less, is) =
      let here = more.below (min first x) (contains_first (min first x) rest) in
      omega arith
  low n (suc zero, less, is) =
      let here = more.below (min first x) (contains_first (min first x) rest) in
      omega arith
  low n (suc (suc k), less, is) = more.below n (suc k, omega arith, is)

fold_least : (first : ℕ) (rest : List ℕ) → IsLeastOf first rest (fold min first rest)
fold_least first [] = record { among = contains_first first []; below = λ n at. only n at } where
  only : (n : ℕ) → Contains (first ∷ []) n → first ≤ n
  only n (zero, less, is) = omega arith
  only n (suc k, less, is) = absurd (omega arith)
fold_least first (x ∷ rest) = fold_more first x rest (fold min (min first x) rest) (fold_least (min first x) rest)

contains_filter : {X : Type 0} (p : X → Bool) (xs : List X) (x : X) → Contains xs x → p x ≡ true → Contains (filter p xs) x
contains_filter p [] x at passes = absurd (omega (arith, at.1))
contains_filter {X} p (y ∷ xs) x (zero, less, is) passes =
    let kept : filter p (y ∷ xs) ≡ y ∷ filter p xs = cond-true (p y) (y ∷ filter p xs) (filter p xs) (ap p is ∙ passes) in
    subst (λ (z : X). Contains (filter p (y ∷ xs)) z) is (subst (λ (l : List X). Contains l y) (sym kept) (contains_first y (filter p xs)))
contains_filter {X} p (y ∷ xs) x (suc k, less, is) passes =
    let rest = contains_filter p xs x (k, omega arith, is) passes in
    cond_both (p y) (y ∷ filter p xs) (filter p xs) (λ (l : List X). Contains l x) (λ _. contains_more y x (filter p xs) rest) (λ _. rest)

reduced : (P : ℕ → Type 0) (after : ℕ) (ys : List ℕ) → ((n : ℕ) → Contains ys n → P n × (after < n)) → ((n : ℕ) → P n → after < n → Contains ys n) → IsLeastAbove P after (reduce min ys)
reduced P after [] from to = λ n so.
    elim (cases_lt after n) [ inl above ↦ let at = to n so above in absurd (omega (arith, at.1)) | inr low ↦ low ]
reduced P after (y ∷ ys) from to =
    let least = fold_least y ys in
    let so = from (fold min y ys) least.among in
    (so.0, so.1, λ n n_so above. least.below n (to n n_so above))

-- the least of a list above a number, as the definition folds it
pub reduced_is_least : (after : ℕ) (xs : List ℕ) → IsLeastAbove (Contains xs) after (reduce min (filter (nat_lt after) xs))
reduced_is_least after xs =
    reduced (Contains xs) after (filter (nat_lt after) xs)
    (λ n at. (
      All-contains (Contains xs) (filter (nat_lt after) xs) n (All-filter (nat_lt after) (Contains xs) xs (All-contains_itself xs)) at,
      ltb-true after n (All-contains (λ m. nat_lt after m ≡ true) (filter (nat_lt after) xs) n (filter_passes (nat_lt after) xs) at),
    ))
    (λ n at above. contains_filter (nat_lt after) xs n at (lt-ltb after n above))
