-- Pairs around a granule: those of lower granules, its own, those of higher ones.
use Rattle.std.proofs.Common.{◌≡◌, ◌<◌, ◌≤◌, ◌+◌, ◌-◌, ℕ, suc, Bool, true, false, List, [], ◌∷◌, ◌++◌, length, get_or, take, drop, refl, sym, ap, ◌∙◌, subst, inl, inr, arith}
use Rattle.std.specs.Prelude.{All, AllPairs, filter, nat_le, nat_lt, slice_range, sum_by, ◌==◌}
use Rattle.std.specs.List.{AllWithin}
use Rattle.std.specs.List.Sorted.{IsNonDecreasingBy, IsPartitionPoint, IsPartitionedBy}
use Rattle.std.proofs.lemmas.Bool.{cases_lt, cond-false, cond-true, cond_both, eq-eqb, le-leb, le-ltb, lt-leb, lt-ltb, ltb-false, ltb-true, ne_eqb}
use Rattle.std.proofs.lemmas.List.{append-nil, drop_more, get_or-drop, get_or-take, get_or_default, length-drop, length-take-le, take-append-drop, take-take}
use Rattle.std.proofs.lemmas.List.Elements.{All-append, All-cons, All-filter, All-head, All-nil, All-tail, All-take, All-weaker, filter-append, filter_passes}
use Rattle.std.proofs.lemmas.List.Kept.{AllPairs-cons, AllPairs-filter}
use Rattle.std.proofs.lemmas.List.Sorted.{IsPartitionedBy-ltb}
use Rattle.std.proofs.lemmas.Slice.{between_is}
use Rattle.count_table.specs.Excess.{IsAscending, excess_at, pair_of, pairs_within, with_excess}

-- a filter that each element passes, and one that none passes
pub filter_every : {X : Type 0} (p : X → Bool) (xs : List X) → All (λ x. p x ≡ true) xs → filter p xs ≡ xs
filter_every p [] every = refl
filter_every p (x ∷ xs) every =
    cond-true (p x) (x ∷ filter p xs) (filter p xs) (All-head (λ y. p y ≡ true) x xs every)
    ∙ ap (λ l. x ∷ l) (filter_every p xs (All-tail (λ y. p y ≡ true) x xs every))

pub filter_nothing : {X : Type 0} (p : X → Bool) (xs : List X) → All (λ x. p x ≡ false) xs → filter p xs ≡ []
filter_nothing p [] none = refl
filter_nothing p (x ∷ xs) none =
    cond-false (p x) (x ∷ filter p xs) (filter p xs) (All-head (λ y. p y ≡ false) x xs none)
    ∙ filter_nothing p xs (All-tail (λ y. p y ≡ false) x xs none)

-- a filter that only the front passes, and one that only the rest passes
pub filter_front : {X : Type 0} (p : X → Bool) (xs ys : List X) → All (λ x. p x ≡ true) xs → All (λ x. p x ≡ false) ys → filter p (xs ++ ys) ≡ xs
filter_front p xs ys every none =
    filter-append p xs ys
    ∙ ap (λ l. l ++ filter p ys) (filter_every p xs every)
    ∙ ap (λ l. xs ++ l) (filter_nothing p ys none)
    ∙ append-nil xs

pub filter_rest : {X : Type 0} (p : X → Bool) (xs ys : List X) → All (λ x. p x ≡ false) xs → All (λ x. p x ≡ true) ys → filter p (xs ++ ys) ≡ ys
filter_rest p xs ys none every =
    filter-append p xs ys
    ∙ ap (λ l. l ++ filter p ys) (filter_nothing p xs none)
    ∙ filter_every p ys every

-- what holds of each element below an index, and from one on
All-front : {X : Type 0} (P : X → Type 0) (xs : List X) (i : ℕ) → i ≤ length xs → AllWithin P xs 0 i → All P (take i xs)
All-front P xs i inside all = λ k d h.
    let lt : k < i = omega (arith, length-take-le i xs inside) in
    subst P (sym (get_or-take i xs k d lt)) (all k d (omega arith) lt)

All-rest : {X : Type 0} (P : X → Type 0) (xs : List X) (i : ℕ) → AllWithin P xs i (length xs) → All P (drop i xs)
All-rest P xs i all = λ k d h.
    let lt : i + k < length xs = omega (arith, length-drop i xs) in
    subst P (sym (get_or-drop i xs k d)) (all (i + k) d (omega arith) lt)

-- elements in order, and others in order behind them
AllPairs-append : {X : Type 0} (R : X → X → Type 0) (xs ys : List X) → AllPairs R xs → AllPairs R ys → All (λ x. All (R x) ys) xs → AllPairs R (xs ++ ys)
AllPairs-append R [] ys front rest cross = rest
AllPairs-append R (x ∷ xs) ys front rest cross =
    let first : All (R x) xs = λ k d h. front 0 (suc k) d (omega arith) (omega arith) in
    let later : AllPairs R xs = λ i j d lt h. front (suc i) (suc j) d (omega arith) (omega arith) in
    AllPairs-cons R x (xs ++ ys) (All-append (R x) xs ys first (All-head (λ y. All (R y) ys) x xs cross)) (AllPairs-append R xs ys later rest (All-tail (λ y. All (R y) ys) x xs cross))

-- the pair of a granule: what holds of it, and what it adds up to
pub All-pair_of : (P : ℕ × ℕ → Type 0) (granule excess : ℕ) → (0 < excess → P (granule, excess)) → All P (pair_of granule excess)
All-pair_of P granule excess here =
    cond_both (nat_lt 0 excess) ((granule, excess) ∷ []) [] (λ l. All P l)
    (λ some. All-cons P (granule, excess) [] (here (ltb-true 0 excess some)) (All-nil P))
    (λ none. All-nil P)

pub sum-pair_of : (granule excess : ℕ) → sum_by (λ p. p.1) (pair_of granule excess) ≡ excess
sum-pair_of granule excess =
    cond_both (nat_lt 0 excess) ((granule, excess) ∷ []) [] (λ l. sum_by (λ p. p.1) l ≡ excess)
    (λ some. omega arith)
    (λ none. omega (arith, ltb-false 0 excess none))

pub pair_of-some : (granule excess : ℕ) → 0 < excess → pair_of granule excess ≡ (granule, excess) ∷ []
pair_of-some granule excess some = cond-true (nat_lt 0 excess) ((granule, excess) ∷ []) [] (lt-ltb 0 excess some)

-- a list of pairs is those before a granule, its own, and those behind
pub record Around (pairs before behind : List (ℕ × ℕ)) (granule excess : ℕ) : Type 0 where
  pub split : pairs ≡ before ++ (pair_of granule excess ++ behind)
  pub below : All (λ p. p.0 < granule) before
  pub above : All (λ p. granule < p.0) behind

module _ {pairs before behind : List (ℕ × ℕ)} {granule excess : ℕ} (around : Around pairs before behind granule excess) where
  -- what a test keeps of each part
  parts : (p : ℕ × ℕ → Bool) → filter p pairs ≡ filter p before ++ (filter p (pair_of granule excess) ++ filter p behind)
  parts p =
      ap (filter p) around.split
      ∙ filter-append p before (pair_of granule excess ++ behind)
      ∙ ap (λ l. filter p before ++ l) (filter-append p (pair_of granule excess) behind)

  lower : filter (λ p. nat_lt p.0 granule) pairs ≡ before
  lower =
      let test : ℕ × ℕ → Bool = λ p. nat_lt p.0 granule in
      let here : All (λ p. test p ≡ false) (pair_of granule excess) = All-pair_of (λ p. test p ≡ false) granule excess (λ _. le-ltb granule granule (omega arith)) in
      let rest : All (λ p. test p ≡ false) (pair_of granule excess ++ behind) = All-append (λ p. test p ≡ false) (pair_of granule excess) behind here (All-weaker (λ p. granule < p.0) (λ p. test p ≡ false) (λ p h. le-ltb p.0 granule (omega arith)) behind around.above) in
      ap (filter test) around.split
      ∙ filter_front test before (pair_of granule excess ++ behind) (All-weaker (λ p. p.0 < granule) (λ p. test p ≡ true) (λ p h. lt-ltb p.0 granule h) before around.below) rest

  higher : filter (λ p. nat_lt granule p.0) pairs ≡ behind
  higher =
      let test : ℕ × ℕ → Bool = λ p. nat_lt granule p.0 in
      let here : All (λ p. test p ≡ false) (pair_of granule excess) = All-pair_of (λ p. test p ≡ false) granule excess (λ _. le-ltb granule granule (omega arith)) in
      parts test
      ∙ ap (λ l. l ++ (filter test (pair_of granule excess) ++ filter test behind)) (filter_nothing test before (All-weaker (λ p. p.0 < granule) (λ p. test p ≡ false) (λ p h. le-ltb granule p.0 (omega arith)) before around.below))
      ∙ ap (λ l. l ++ filter test behind) (filter_nothing test (pair_of granule excess) here)
      ∙ filter_every test behind (All-weaker (λ p. granule < p.0) (λ p. test p ≡ true) (λ p h. lt-ltb granule p.0 h) behind around.above)

  own : filter (λ p. p.0 == granule) pairs ≡ pair_of granule excess
  own =
      let test : ℕ × ℕ → Bool = λ p. p.0 == granule in
      let here : All (λ p. test p ≡ true) (pair_of granule excess) = All-pair_of (λ p. test p ≡ true) granule excess (λ _. eq-eqb granule granule refl) in
      let rest : All (λ p. test p ≡ false) behind = All-weaker (λ p. granule < p.0) (λ p. test p ≡ false) (λ p h. ne_eqb p.0 granule (λ e. omega arith)) behind around.above in
      parts test
      ∙ ap (λ l. l ++ (filter test (pair_of granule excess) ++ filter test behind)) (filter_nothing test before (All-weaker (λ p. p.0 < granule) (λ p. test p ≡ false) (λ p h. ne_eqb p.0 granule (λ e. omega arith)) before around.below))
      ∙ ap (λ l. l ++ filter test behind) (filter_every test (pair_of granule excess) here)
      ∙ ap (λ l. pair_of granule excess ++ l) (filter_nothing test behind rest)
      ∙ append-nil (pair_of granule excess)

  pub excess_at-around : excess_at pairs granule ≡ excess
  excess_at-around = ap (λ l. sum_by (λ p. p.1) l) own ∙ sum-pair_of granule excess

  pub with_excess-around : (other : ℕ) → with_excess pairs granule other ≡ before ++ (pair_of granule other ++ behind)
  with_excess-around other =
      ap (λ l. l ++ (pair_of granule other ++ filter (λ p. nat_lt granule p.0) pairs)) lower
      ∙ ap (λ l. before ++ (pair_of granule other ++ l)) higher

-- pairs stay ascending with another excess of a granule
pub IsAscending-with_excess : (pairs : List (ℕ × ℕ)) (granule excess : ℕ) → IsAscending pairs → IsAscending (with_excess pairs granule excess)
IsAscending-with_excess pairs granule excess up =
    let R : ℕ × ℕ → ℕ × ℕ → Type 0 = λ p q. p.0 < q.0 in
    let low : ℕ × ℕ → Bool = λ p. nat_lt p.0 granule in
    let high : ℕ × ℕ → Bool = λ p. nat_lt granule p.0 in
    let lows = filter low pairs in
    let highs = filter high pairs in
    let here = pair_of granule excess in
    let below : All (λ p. p.0 < granule) lows = All-weaker (λ p. low p ≡ true) (λ p. p.0 < granule) (λ p t. ltb-true p.0 granule t) lows (filter_passes low pairs) in
    let above : All (λ p. granule < p.0) highs = All-weaker (λ p. high p ≡ true) (λ p. granule < p.0) (λ p t. ltb-true granule p.0 t) highs (filter_passes high pairs) in
    let one : AllPairs R here = cond_both (nat_lt 0 excess) ((granule, excess) ∷ []) [] (λ l. AllPairs R l) (λ some. λ i j d lt h. absurd (omega arith)) (λ none. λ i j d lt h. absurd (omega arith)) in
    let behind : AllPairs R (here ++ highs) = AllPairs-append R here highs one (AllPairs-filter R high pairs up.ascending) (All-pair_of (λ p. All (R p) highs) granule excess (λ _. above)) in
    let across : All (λ p. All (R p) (here ++ highs)) lows =
    All-weaker (λ p. p.0 < granule) (λ p. All (R p) (here ++ highs))
    (λ p lt. All-append (R p) here highs (All-pair_of (R p) granule excess (λ _. lt)) (All-weaker (λ q. granule < q.0) (R p) (λ q gt. omega arith) highs above)) lows below in
    record {
      ascending = AllPairs-append R lows (here ++ highs) (AllPairs-filter R low pairs up.ascending) behind across;
      some = All-append (λ p. 0 < p.1) lows (here ++ highs) (All-filter low (λ p. 0 < p.1) pairs up.some) (All-append (λ p. 0 < p.1) here highs (All-pair_of (λ p. 0 < p.1) granule excess (λ some. some)) (All-filter high (λ p. 0 < p.1) pairs up.some));
    }

-- the place of a granule: how many pairs have a lower one
abbrev pub IsPlace : List (ℕ × ℕ) → ℕ → ℕ → Type 0
IsPlace pairs granule place = IsPartitionPoint (λ p. p.0 < granule) (λ p. granule ≤ p.0) pairs place

-- what a search by halves asks of ascending pairs, and what it gives
pub IsPartitionedBy-ascending : (pairs : List (ℕ × ℕ)) (granule : ℕ) → IsAscending pairs → IsPartitionedBy (λ p. nat_lt p.0 granule) pairs
IsPartitionedBy-ascending pairs granule up =
    let rise : IsNonDecreasingBy (λ p. p.0) pairs = λ i j d le h.
    elim (cases_lt i j) [
      | inl less ↦ omega (arith, up.ascending i j d less h)
      | inr more ↦ let e : i ≡ j = omega arith in omega (arith, ap (λ k. (get_or pairs k d).0) e)
    ] in
    IsPartitionedBy-ltb (λ p. p.0) pairs granule rise

pub IsPlace-partition : (pairs : List (ℕ × ℕ)) (granule place : ℕ) → IsPartitionPoint (λ p. nat_lt p.0 granule ≡ true) (λ p. nat_lt p.0 granule ≡ false) pairs place → IsPlace pairs granule place
IsPlace-partition pairs granule place point =
    (λ k d low high. ltb-true (get_or pairs k d).0 granule (point.0 k d low high), λ k d low high. ltb-false (get_or pairs k d).0 granule (point.1 k d low high))

module _ (pairs : List (ℕ × ℕ)) (granule place : ℕ) (up : IsAscending pairs) (inside : place ≤ length pairs) (at : IsPlace pairs granule place) where
  -- the pair of the granule stands at its place
  pub found : (p : ℕ × ℕ) → place < length pairs → p ≡ get_or pairs place p → p.0 ≡ granule → Around pairs (take place pairs) (drop (place + 1) pairs) granule p.1
  found p within is here =
      let some : 0 < p.1 = subst (λ (q : ℕ × ℕ). 0 < q.1) (sym is) (up.some place p within) in
      let rest = drop (place + 1) pairs in
      let own : get_or pairs place p ∷ rest ≡ pair_of granule p.1 ++ rest = ap (λ (q : ℕ × ℕ). q ∷ rest) (sym is ∙ ap (λ g. (g, p.1)) here) ∙ ap (λ l. l ++ rest) (sym (pair_of-some granule p.1 some)) in
      record {
        split = sym (take-append-drop place pairs) ∙ ap (λ l. take place pairs ++ l) (drop_more pairs place p within ∙ own);
        below = All-front (λ p. p.0 < granule) pairs place inside at.0;
        above = λ k d h.
            let lt : place + 1 + k < length pairs = omega (arith, length-drop (place + 1) pairs) in
            let first : get_or pairs place d ≡ p = get_or_default pairs place d p within ∙ sym is in
            let later : granule < (get_or pairs (place + 1 + k) d).0 = omega (arith, up.ascending place (place + 1 + k) d (omega arith) lt, ap (λ (q : ℕ × ℕ). q.0) first, here) in
            subst (λ (q : ℕ × ℕ). granule < q.0) (sym (get_or-drop (place + 1) pairs k d)) later;
      }

  -- another pair stands there, or none
  pub missing : (place < length pairs → (d : ℕ × ℕ) → (get_or pairs place d).0 ≡ granule → ⊥) → Around pairs (take place pairs) (drop place pairs) granule 0
  missing other = record {
    split = sym (take-append-drop place pairs);
    below = All-front (λ p. p.0 < granule) pairs place inside at.0;
    above = λ k d h.
        let lt : place + k < length pairs = omega (arith, length-drop place pairs) in
        let within : place < length pairs = omega arith in
        let no = other within d in
        let first : granule < (get_or pairs place d).0 = omega (arith, at.1 place d (omega arith) within) in
        let later : granule < (get_or pairs (place + k) d).0 =
        elim (cases_lt 0 k) [
          | inl more ↦ omega (arith, up.ascending place (place + k) d (omega arith) lt)
          | inr same ↦ let e : place ≡ place + k = omega arith in subst (λ n. granule < (get_or pairs n d).0) e first
        ] in
        subst (λ (q : ℕ × ℕ). granule < q.0) (sym (get_or-drop place pairs k d)) later;
  }

-- a higher granule has no lower place
pub places_rise : (pairs : List (ℕ × ℕ)) (first end a b : ℕ) → first ≤ end → a ≤ length pairs → IsPlace pairs first a → IsPlace pairs end b → a ≤ b
places_rise pairs first end a b ordered inside from to =
    elim (cases_lt b a) [
      | inl less ↦ absurd (omega (arith, from.0 b (0, 0) (omega arith) less, to.1 b (0, 0) (omega arith) (omega arith)))
      | inr more ↦ more
    ]

-- the pairs between two places are those of the granules between
pub pairs_within-places : (pairs : List (ℕ × ℕ)) (first end a b : ℕ) → first ≤ end → a ≤ length pairs → b ≤ length pairs → IsPlace pairs first a → IsPlace pairs end b → pairs_within pairs first end ≡ slice_range pairs a b
pairs_within-places pairs first end a b ordered a_in b_in from to =
    let below : ℕ × ℕ → Bool = λ p. nat_lt p.0 end in
    let above : ℕ × ℕ → Bool = λ p. nat_le first p.0 in
    let rise : a ≤ b = places_rise pairs first end a b ordered a_in from to in
    let front : filter below pairs ≡ take b pairs =
    ap (filter below) (sym (take-append-drop b pairs))
    ∙ filter_front below (take b pairs) (drop b pairs)
    (All-weaker (λ p. p.0 < end) (λ p. below p ≡ true) (λ p h. lt-ltb p.0 end h) (take b pairs) (All-front (λ p. p.0 < end) pairs b b_in to.0))
    (All-weaker (λ p. end ≤ p.0) (λ p. below p ≡ false) (λ p h. le-ltb p.0 end h) (drop b pairs) (All-rest (λ p. end ≤ p.0) pairs b to.1)) in
    let some = take b pairs in
    let lower : All (λ p. p.0 < first) (take a some) = subst (λ l. All (λ p. p.0 < first) l) (sym (take-take a b pairs rise)) (All-front (λ p. p.0 < first) pairs a a_in from.0) in
    let upper : All (λ p. first ≤ p.0) (drop a some) = subst (λ l. All (λ p. first ≤ p.0) l) (between_is pairs a b) (All-take (λ p. first ≤ p.0) (b - a) (drop a pairs) (All-rest (λ p. first ≤ p.0) pairs a from.1)) in
    ap (filter above) front
    ∙ ap (filter above) (sym (take-append-drop a some))
    ∙ filter_rest above (take a some) (drop a some)
    (All-weaker (λ p. p.0 < first) (λ p. above p ≡ false) (λ p h. lt-leb first p.0 h) (take a some) lower)
    (All-weaker (λ p. first ≤ p.0) (λ p. above p ≡ true) (λ p h. le-leb first p.0 h) (drop a some) upper)
    ∙ sym (between_is pairs a b)
