-- Items that each take up some places, one after another: to which item a place belongs.
use Rattle.meaning_laws.proofs.Words.Std.{List, Some, [], ap, arith, cases_lt, cases_order, get_or_from_slice_get, length, refl, slice_get, slice_get_within, suc, sum_by, sum_by-cons, sum_by-take-le, sum_by_more, take, take-take, take_all, ℕ, ⊎_elim, ◌+◌, ◌-◌, ◌<◌, ◌∙◌, ◌∷◌, ◌≡◌, ◌≤◌}

module _ {X : Type 0} (weight : X → ℕ) where
  -- the places before an item
  abbrev pub before : List X → ℕ → ℕ
  before xs n = sum_by weight (take n xs)

  -- a place is the rest-th of an item
  pub record Part (xs : List X) (place : ℕ) : Type 0 where
    pub number : ℕ
    pub item : X
    pub here : slice_get xs number ≡ Some item
    pub rest : ℕ
    pub below : rest < weight item
    pub sum : before xs number + rest ≡ place

  pub part_at : (xs : List X) (place : ℕ) → place < sum_by weight xs → Part xs place
  part_at [] place h = absurd (omega arith)
  part_at (x ∷ xs) place h =
      ⊎_elim
      (λ (first : place < weight x).
      record { number = 0; item = x; here = refl; rest = place; below = first; sum = omega arith })
      (λ (later : weight x ≤ place).
      let p = part_at xs (place - weight x) (omega (arith, sum_by-cons weight x xs)) in
      record {
        number = suc p.number;
        item = p.item;
        here = p.here;
        rest = p.rest;
        below = p.below;
        sum = omega (arith, sum_by-cons weight x (take p.number xs), p.sum);
      })
      (cases_lt place (weight x))

  pub before_more : (xs : List X) (n : ℕ) (x : X) → slice_get xs n ≡ Some x → before xs (n + 1) ≡ before xs n + weight x
  before_more xs n x h =
      sum_by_more weight xs n x (slice_get_within xs n x h) ∙ ap (λ y. before xs n + weight y) (get_or_from_slice_get xs n x x h)

  pub before_le : (xs : List X) (n m : ℕ) → n ≤ m → before xs n ≤ before xs m
  before_le xs n m h = omega (arith, sum_by-take-le weight (take m xs) n, ap (sum_by weight) (take-take n m xs h))

  pub before_all : (xs : List X) → before xs (length xs) ≡ sum_by weight xs
  before_all xs = ap (sum_by weight) (take_all (length xs) xs (omega arith))

  -- the places of an item end before those of a later one begin
  pub before_later : (xs : List X) (n m : ℕ) (x : X) → slice_get xs n ≡ Some x → n < m → before xs n + weight x ≤ before xs m
  before_later xs n m x h less = omega (arith, before_more xs n x h, before_le xs (n + 1) m (omega arith))

  pub before_end : (xs : List X) (n : ℕ) (x : X) → slice_get xs n ≡ Some x → before xs n + weight x ≤ sum_by weight xs
  before_end xs n x h =
      omega (arith, before_later xs n (length xs) x h (slice_get_within xs n x h), before_all xs)

  -- a place belongs to one item
  pub one_part : (xs : List X) (n m j k : ℕ) (x y : X) → slice_get xs n ≡ Some x → slice_get xs m ≡ Some y → j < weight x → k < weight y → before xs n + j ≡ before xs m + k → n ≡ m
  one_part xs n m j k x y at_n at_m a b same =
      ⊎_elim (λ (e : n ≡ m). e)
      (⊎_elim
      (λ (less : n < m). absurd (omega (arith, before_later xs n m x at_n less)))
      (λ (more : m < n). absurd (omega (arith, before_later xs m n y at_m more))))
      (cases_order n m)
