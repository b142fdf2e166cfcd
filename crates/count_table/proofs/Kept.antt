-- Counts as they are kept: bytes and pairs show them, whatever one of them becomes.
use Rattle.std.proofs.Common.{◌≡◌, ◌<◌, ◌≤◌, ◌+◌, ◌-◌, ◌*◌, ◌/◌, ◌^◌, ℕ, zero, suc, Bool, true, false, List, [], ◌∷◌, ◌++◌, length, map, get_or, set, take, drop, replicate, sum, refl, sym, ap, ◌∙◌, subst, inl, inr, arith}
use Rattle.std.specs.Prelude.{All, filter, min, nat_le, nat_lt, slice_range, sum_by}
use Rattle.std.specs.List.{enumerate_from}
use Rattle.std.proofs.lemmas.Bool.{cases_lt, cond-false, cond-true, cond_both, le-leb, le-ltb, lt-leb, lt-ltb, ltb-true}
use Rattle.std.proofs.lemmas.List.{drop-map, drop-set-lt, drop_more, ext_get_or, get_or-map, get_or-set_same, length-append, length-map, length-set, length-take-le, map-append, map-set, set-get_or, take-append-drop, take-map, take-set}
use Rattle.std.proofs.lemmas.List.Elements.{All-filter, All-map, All-weaker, filter-append}
use Rattle.std.proofs.lemmas.List.FromFn.{get_or-enumerate_from, length-enumerate_from}
use Rattle.std.proofs.lemmas.List.Sums.{sum_by-append, sum_by-cons, sum_by-take-drop, sum_by-take-le}
use Rattle.std.proofs.lemmas.Slice.{between_is}
use Rattle.count_table.specs.Excess.{Pairs, excess_at, pair_of, pairs_within, with_excess}
use Rattle.count_table.specs.Table.{IsTable, counts_of, excess_of, lows_of}
use Rattle.count_table.proofs.Around.{Around, excess_at-around, filter_front, filter_rest, pair_of-some, sum-pair_of, with_excess-around}

-- the excess of the granules from one on
abbrev pub excess_from : ℕ → List ℕ → List (ℕ × ℕ)
excess_from first counts = map (λ p. (p.0, p.1 - 255)) (filter (λ p. nat_lt 255 p.1) (enumerate_from first counts))

enumerate_from-append : (n : ℕ) (xs ys : List ℕ) → enumerate_from n (xs ++ ys) ≡ enumerate_from n xs ++ enumerate_from (n + length xs) ys
enumerate_from-append n [] ys = let e : n ≡ n + 0 = omega arith in ap (λ k. enumerate_from k ys) e
enumerate_from-append n (x ∷ xs) ys =
    let e : n + 1 + length xs ≡ n + suc (length xs) = omega arith in
    ap (λ l. (n, x) ∷ l) (enumerate_from-append (n + 1) xs ys ∙ ap (λ k. enumerate_from (n + 1) xs ++ enumerate_from k ys) e)

excess_from-append : (n : ℕ) (xs ys : List ℕ) → excess_from n (xs ++ ys) ≡ excess_from n xs ++ excess_from (n + length xs) ys
excess_from-append n xs ys =
    let above : ℕ × ℕ → Bool = λ p. nat_lt 255 p.1 in
    let rest : ℕ × ℕ → ℕ × ℕ = λ p. (p.0, p.1 - 255) in
    ap (λ l. map rest (filter above l)) (enumerate_from-append n xs ys)
    ∙ ap (map rest) (filter-append above (enumerate_from n xs) (enumerate_from (n + length xs) ys))
    ∙ map-append rest (filter above (enumerate_from n xs)) (filter above (enumerate_from (n + length xs) ys))

excess_from-one : (n count : ℕ) → excess_from n (count ∷ []) ≡ pair_of n (count - 255)
excess_from-one n count =
    let rest : ℕ × ℕ → ℕ × ℕ = λ p. (p.0, p.1 - 255) in
    elim (cases_lt 255 count) [
      | inl more ↦ ap (map rest) (cond-true (nat_lt 255 count) ((n, count) ∷ []) [] (lt-ltb 255 count more)) ∙ sym (pair_of-some n (count - 255) (omega arith))
      | inr less ↦ ap (map rest) (cond-false (nat_lt 255 count) ((n, count) ∷ []) [] (le-ltb 255 count less)) ∙ sym (cond-false (nat_lt 0 (count - 255)) ((n, count - 255) ∷ []) [] (le-ltb 0 (count - 255) (omega arith)))
    ]

excess_from-cons : (n count : ℕ) (counts : List ℕ) → excess_from n (count ∷ counts) ≡ pair_of n (count - 255) ++ excess_from (n + 1) counts
excess_from-cons n count counts = excess_from-append n (count ∷ []) counts ∙ ap (λ l. l ++ excess_from (n + 1) counts) (excess_from-one n count)

-- its pairs are of those granules
All-excess_from : (n : ℕ) (counts : List ℕ) → All (λ p. (n ≤ p.0) × (p.0 < n + length counts)) (excess_from n counts)
All-excess_from n counts =
    let P : ℕ × ℕ → Type 0 = λ p. (n ≤ p.0) × (p.0 < n + length counts) in
    let above : ℕ × ℕ → Bool = λ p. nat_lt 255 p.1 in
    let each : All P (enumerate_from n counts) = λ k d h.
    let lt : k < length counts = omega (arith, length-enumerate_from n counts) in
    subst P (sym (get_or-enumerate_from n counts k d lt)) (omega arith, omega arith) in
    All-map P (λ p. (p.0, p.1 - 255)) (filter above (enumerate_from n counts)) (All-filter above P (enumerate_from n counts) each)

-- the excess of a list of counts, cut in two
excess_of-cut : (counts : List ℕ) (n : ℕ) → n ≤ length counts → excess_of counts ≡ excess_from 0 (take n counts) ++ excess_from n (drop n counts)
excess_of-cut counts n inside =
    let e : 0 + length (take n counts) ≡ n = omega (arith, length-take-le n counts inside) in
    ap (excess_from 0) (sym (take-append-drop n counts))
    ∙ excess_from-append 0 (take n counts) (drop n counts)
    ∙ ap (λ k. excess_from 0 (take n counts) ++ excess_from k (drop n counts)) e

-- what stands around a granule
excess_of-around : (counts : List ℕ) (n : ℕ) → n < length counts → Around (excess_of counts) (excess_from 0 (take n counts)) (excess_from (n + 1) (drop (n + 1) counts)) n (get_or counts n 0 - 255)
excess_of-around counts n inside =
    let front = excess_from 0 (take n counts) in
    let long : length (take n counts) ≡ n = length-take-le n counts (omega arith) in
    record {
      split = excess_of-cut counts n (omega arith) ∙ ap (λ l. front ++ l) (ap (excess_from n) (drop_more counts n 0 inside) ∙ excess_from-cons n (get_or counts n 0) (drop (n + 1) counts));
      below = All-weaker (λ p. (0 ≤ p.0) × (p.0 < 0 + length (take n counts))) (λ p. p.0 < n) (λ p h. omega (arith, h.1)) front (All-excess_from 0 (take n counts));
      above = All-weaker (λ p. (n + 1 ≤ p.0) × (p.0 < n + 1 + length (drop (n + 1) counts))) (λ p. n < p.0) (λ p h. omega (arith, h.0)) (excess_from (n + 1) (drop (n + 1) counts)) (All-excess_from (n + 1) (drop (n + 1) counts));
    }

pub excess_at-excess_of : (counts : List ℕ) (n : ℕ) → n < length counts → excess_at (excess_of counts) n ≡ get_or counts n 0 - 255
excess_at-excess_of counts n inside = excess_at-around (excess_of-around counts n inside)

-- the excess once one count has changed
pub excess_of-set : (counts : List ℕ) (n count : ℕ) → n < length counts → excess_of (set counts n count) ≡ with_excess (excess_of counts) n (count - 255)
excess_of-set counts n count inside =
    let new = set counts n count in
    let e : length new ≡ length counts = length-set counts n count in
    (excess_of-around new n (omega arith)).split
    ∙ ap (λ l. excess_from 0 l ++ (pair_of n (get_or new n 0 - 255) ++ excess_from (n + 1) (drop (n + 1) new))) (take-set counts n count)
    ∙ ap (λ c. excess_from 0 (take n counts) ++ (pair_of n (c - 255) ++ excess_from (n + 1) (drop (n + 1) new))) (get_or-set_same counts n count 0 inside)
    ∙ ap (λ l. excess_from 0 (take n counts) ++ (pair_of n (count - 255) ++ excess_from (n + 1) l)) (drop-set-lt (n + 1) counts n count (omega arith))
    ∙ sym (with_excess-around (excess_of-around counts n inside) (count - 255))

-- each pair takes 256 of the sum
pub excess_from-pigeons : (n : ℕ) (counts : List ℕ) → 256 * length (excess_from n counts) ≤ sum counts
excess_from-pigeons n [] = omega arith
excess_from-pigeons n (count ∷ counts) =
    let one : 256 * length (pair_of n (count - 255)) ≤ count =
    cond_both (nat_lt 0 (count - 255)) ((n, count - 255) ∷ []) [] (λ l. 256 * length l ≤ count)
    (λ some. omega (arith, ltb-true 0 (count - 255) some)) (λ none. omega arith) in
    let e : length (excess_from n (count ∷ counts)) ≡ length (pair_of n (count - 255)) + length (excess_from (n + 1) counts) =
    ap length (excess_from-cons n count counts) ∙ length-append (pair_of n (count - 255)) (excess_from (n + 1) counts) in
    omega (arith, one, e, excess_from-pigeons (n + 1) counts, sum_by-cons (λ x. x) count counts)

-- bytes and excess add up to the counts
pub sum-parts : (n : ℕ) (counts : List ℕ) → sum (lows_of counts) + sum_by (λ p. p.1) (excess_from n counts) ≡ sum counts
sum-parts n [] = refl
sum-parts n (count ∷ counts) =
    let e : sum_by (λ p. p.1) (excess_from n (count ∷ counts)) ≡ (count - 255) + sum_by (λ p. p.1) (excess_from (n + 1) counts) =
    ap (λ l. sum_by (λ p. p.1) l) (excess_from-cons n count counts)
    ∙ sum_by-append (λ p. p.1) (pair_of n (count - 255)) (excess_from (n + 1) counts)
    ∙ ap (λ x. x + sum_by (λ p. p.1) (excess_from (n + 1) counts)) (sum-pair_of n (count - 255)) in
    let low : sum (lows_of (count ∷ counts)) ≡ min count 255 + sum (lows_of counts) = sum_by-cons (λ x. x) (min count 255) (lows_of counts) in
    omega (arith, e, low, sum-parts (n + 1) counts, sum_by-cons (λ x. x) count counts)

-- the pairs of some granules are their excess
pub pairs_within-excess_of : (counts : List ℕ) (first end : ℕ) → first ≤ end → end ≤ length counts → pairs_within (excess_of counts) first end ≡ excess_from first (slice_range counts first end)
pairs_within-excess_of counts first end ordered inside =
    let below : ℕ × ℕ → Bool = λ p. nat_lt p.0 end in
    let above : ℕ × ℕ → Bool = λ p. nat_le first p.0 in
    let front = take end counts in
    let long : length front ≡ end = length-take-le end counts inside in
    let under : All (λ p. below p ≡ true) (excess_from 0 front) = All-weaker (λ p. (0 ≤ p.0) × (p.0 < 0 + length front)) (λ p. below p ≡ true) (λ p h. lt-ltb p.0 end (omega (arith, h.1))) (excess_from 0 front) (All-excess_from 0 front) in
    let over : All (λ p. below p ≡ false) (excess_from end (drop end counts)) = All-weaker (λ p. (end ≤ p.0) × (p.0 < end + length (drop end counts))) (λ p. below p ≡ false) (λ p h. le-ltb p.0 end h.0) (excess_from end (drop end counts)) (All-excess_from end (drop end counts)) in
    let start = take first front in
    let start_long : length start ≡ first = length-take-le first front (omega arith) in
    let some = drop first front in
    let outside : All (λ p. above p ≡ false) (excess_from 0 start) = All-weaker (λ p. (0 ≤ p.0) × (p.0 < 0 + length start)) (λ p. above p ≡ false) (λ p h. lt-leb first p.0 (omega (arith, h.1))) (excess_from 0 start) (All-excess_from 0 start) in
    let within : All (λ p. above p ≡ true) (excess_from first some) = All-weaker (λ p. (first ≤ p.0) × (p.0 < first + length some)) (λ p. above p ≡ true) (λ p h. le-leb first p.0 h.0) (excess_from first some) (All-excess_from first some) in
    ap (λ l. filter above (filter below l)) (excess_of-cut counts end inside)
    ∙ ap (filter above) (filter_front below (excess_from 0 front) (excess_from end (drop end counts)) under over)
    ∙ ap (filter above) (excess_of-cut front first (omega arith))
    ∙ filter_rest above (excess_from 0 start) (excess_from first some) outside within
    ∙ ap (excess_from first) (sym (between_is counts first end))

lows_of-slice : (counts : List ℕ) (first end : ℕ) → slice_range (lows_of counts) first end ≡ lows_of (slice_range counts first end)
lows_of-slice counts first end =
    let low : ℕ → ℕ = λ count. min count 255 in
    ap (take (end - first)) (drop-map low first counts) ∙ take-map low (end - first) (drop first counts)

-- the sum of some counts
pub sum-slice : (counts : List ℕ) (first end : ℕ) → first ≤ end → end ≤ length counts → sum (slice_range (lows_of counts) first end) + sum_by (λ p. p.1) (pairs_within (excess_of counts) first end) ≡ sum (slice_range counts first end)
sum-slice counts first end ordered inside =
    omega (arith, ap sum (lows_of-slice counts first end), ap (λ l. sum_by (λ p. p.1) l) (pairs_within-excess_of counts first end ordered inside), sum-parts first (slice_range counts first end))

-- bytes and pairs show counts
pub record Show (lows : List ℕ) (pairs : List (ℕ × ℕ)) (counts : List ℕ) : Type 0 where
  pub low : lows ≡ lows_of counts
  pub above : pairs ≡ excess_of counts

counts_of-parts : (counts : List ℕ) → counts_of (lows_of counts) (excess_of counts) ≡ counts
counts_of-parts counts =
    let lows = lows_of counts in
    let both : ℕ × ℕ → ℕ = λ p. p.1 + excess_at (excess_of counts) p.0 in
    let long : length lows ≡ length counts = length-map counts (λ count. min count 255) in
    let numbered : length (enumerate_from 0 lows) ≡ length lows = length-enumerate_from 0 lows in
    ext_get_or 0 (counts_of lows (excess_of counts)) counts (length-map (enumerate_from 0 lows) both ∙ numbered ∙ long)
    (λ k h.
    let in_numbered : k < length (enumerate_from 0 lows) = omega (arith, length-map (enumerate_from 0 lows) both) in
    let in_lows : k < length lows = omega arith in
    let inside : k < length counts = omega arith in
    let low : get_or lows k 0 ≡ min (get_or counts k 0) 255 = get_or-map (λ count. min count 255) counts k 0 0 inside in
    let zero_k : 0 + k ≡ k = omega arith in
    let rest : excess_at (excess_of counts) (0 + k) ≡ get_or counts k 0 - 255 = ap (excess_at (excess_of counts)) zero_k ∙ excess_at-excess_of counts k inside in
    get_or-map both (enumerate_from 0 lows) k (0, 0) 0 in_numbered
    ∙ ap both (get_or-enumerate_from 0 lows k (0, 0) in_lows)
    ∙ omega (arith, low, rest))

-- they stand for those counts
pub counts_of-shown : {lows counts : List ℕ} {pairs : List (ℕ × ℕ)} → Show lows pairs counts → counts_of lows pairs ≡ counts
counts_of-shown {lows} {counts} {pairs} shown =
    ap (λ l. counts_of l pairs) shown.low ∙ ap (counts_of (lows_of counts)) shown.above ∙ counts_of-parts counts

-- so they make a table
pub IsTable-shown : {lows counts : List ℕ} (excess : Pairs) (most : ℕ) → Show lows excess.list counts → sum counts ≤ most → excess.room ≡ most / 256 → most < 2 ^ 32 → IsTable lows excess most
IsTable-shown {lows} {counts} excess most shown bounded room fits =
    let e : counts_of lows excess.list ≡ counts = counts_of-shown shown in
    record {
      low = shown.low ∙ ap lows_of (sym e);
      above = shown.above ∙ ap excess_of (sym e);
      bounded = omega (arith, ap sum e);
      room = room;
      fits = fits;
    }

-- a table shows its counts
pub Show-table : {lows : List ℕ} {excess : Pairs} {most : ℕ} → IsTable lows excess most → Show lows excess.list (counts_of lows excess.list)
Show-table table = record { low = table.low; above = table.above }

-- no counts yet
pub Show-replicate : (n : ℕ) → Show (replicate n 0) [] (replicate n 0)
Show-replicate n = record { low = low n; above = above 0 n } where
  low : (n : ℕ) → replicate n 0 ≡ lows_of (replicate n 0)
  low zero = refl
  low (suc n) = ap (λ l. 0 ∷ l) (low n)

  above : (k n : ℕ) → [] ≡ excess_from k (replicate n 0)
  above k zero = refl
  above k (suc n) = above (k + 1) n

module _ {lows : List ℕ} {pairs : List (ℕ × ℕ)} {counts : List ℕ} (shown : Show lows pairs counts) (n : ℕ) (inside : n < length counts) where
  -- a byte, and the excess of its granule
  pub low_at : get_or lows n 0 ≡ min (get_or counts n 0) 255
  low_at = ap (λ l. get_or l n 0) shown.low ∙ get_or-map (λ count. min count 255) counts n 0 0 inside

  pub excess_at-shown : excess_at pairs n ≡ get_or counts n 0 - 255
  excess_at-shown = ap (λ l. excess_at l n) shown.above ∙ excess_at-excess_of counts n inside

  -- a count that its byte holds, before and after
  pub Show-low : (count : ℕ) → get_or counts n 0 ≤ 255 → count ≤ 255 → Show (set lows n count) pairs (set counts n count)
  Show-low count old_low new_low =
      let same : min count 255 ≡ count = omega arith in
      let old : get_or counts n 0 - 255 ≡ 0 = omega arith in
      let new : count - 255 ≡ 0 = omega arith in
      let unchanged : excess_of counts ≡ with_excess (excess_of counts) n 0 =
      ap excess_of (sym (set-get_or counts n 0)) ∙ excess_of-set counts n (get_or counts n 0) inside ∙ ap (with_excess (excess_of counts) n) old in
      record {
        low = ap (λ l. set l n count) shown.low ∙ ap (set (lows_of counts) n) (sym same) ∙ sym (map-set (λ count. min count 255) counts n count);
        above = shown.above ∙ unchanged ∙ ap (with_excess (excess_of counts) n) (sym new) ∙ sym (excess_of-set counts n count inside);
      }

  -- a count with a full byte, before and after
  pub Show-high : (others : List (ℕ × ℕ)) (count : ℕ) → 255 ≤ get_or counts n 0 → 255 ≤ count → others ≡ with_excess pairs n (count - 255) → Show lows others (set counts n count)
  Show-high others count old_high new_high is =
      let full : min count 255 ≡ get_or lows n 0 = omega (arith, low_at) in
      record {
        low = sym (set-get_or lows n 0) ∙ ap (set lows n) (sym full) ∙ ap (λ l. set l n (min count 255)) shown.low ∙ sym (map-set (λ count. min count 255) counts n count);
        above = is ∙ ap (λ l. with_excess l n (count - 255)) shown.above ∙ sym (excess_of-set counts n count inside);
      }

module _ {lows : List ℕ} {excess : Pairs} {most : ℕ} (table : IsTable lows excess most) where
  -- all counts
  pub sum_is-parts : sum lows + sum_by (λ p. p.1) excess.list ≡ sum (counts_of lows excess.list)
  sum_is-parts =
      let counts = counts_of lows excess.list in
      omega (arith, ap sum table.low, ap (λ l. sum_by (λ p. p.1) l) table.above, sum-parts 0 counts)

  -- the counts of some granules
  pub sum-some : (first end : ℕ) → first ≤ end → end ≤ length (counts_of lows excess.list) → sum (slice_range lows first end) + sum_by (λ p. p.1) (pairs_within excess.list first end) ≡ sum (slice_range (counts_of lows excess.list) first end)
  sum-some first end ordered inside =
      let counts = counts_of lows excess.list in
      omega (arith, ap (λ l. sum (slice_range l first end)) table.low, ap (λ l. sum_by (λ p. p.1) (pairs_within l first end)) table.above, sum-slice counts first end ordered inside)

-- some of them sum up to no more than all
pub sum-slice-le : (xs : List ℕ) (first end : ℕ) → sum (slice_range xs first end) ≤ sum xs
sum-slice-le xs first end = omega (arith, sum_by-take-le (λ x. x) (drop first xs) (end - first), sum_by-take-drop (λ x. x) xs first)
