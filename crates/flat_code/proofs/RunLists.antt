-- The registers of runs, and which of them there are.
use Rattle.std.proofs.Common.{◌≡◌, ℕ, zero, suc, ◌+◌, ◌-◌, ◌<◌, ◌≤◌, true, false, List, [], ◌∷◌, ◌++◌, length, get_or, refl, sym, ap, ◌∙◌, subst, ⊎_elim, arith}
use Rattle.std.specs.Prelude.{◌↔◌, slice_set, All, AllPairs, Contains, IsTrue}
use Rattle.std.specs.List.{range_with_len}
use Rattle.std.proofs.lemmas.List.{append-nil, append_assoc, get_or_append_left, get_or-append-add, length-append}
use Rattle.std.specs.List.Sorted.{IsNonDecreasingBy, IsPartitionPoint}
use Rattle.std.proofs.Math.Dec.{leb, ltb}
use Rattle.std.proofs.lemmas.Bool.{cases_lt, leb-true, le-leb, ltb-false, ltb-true}
use Rattle.std.proofs.lemmas.List.Elements.{All-contains, All-head, All-tail, All-append, Contains-get_or, Contains-append_left, Contains-append_right, Contains-append_cases}
use Rattle.std.proofs.lemmas.List.FromFn.{length-range_with_len, get_or-range_with_len}
use Rattle.std.proofs.lemmas.List.Kept.{AllPairs-cons}
use Rattle.flat_code.specs.declared.registers.Run.{Run}
use Rattle.flat_code.specs.Runs.{AreRuns, IsRun, registers_in, registers_left, registers_of}

-- One run more

pub range_append : (a m n : ℕ) → range_with_len a (m + n) ≡ range_with_len a m ++ range_with_len (a + m) n
range_append a zero n =
    let e : 0 + n ≡ n = omega arith in
    let f : a ≡ a + 0 = omega arith in
    ap (range_with_len a) e ∙ ap (λ k. range_with_len k n) f
range_append a (suc m) n =
    let e : suc m + n ≡ suc (m + n) = omega arith in
    let f : a + 1 + m ≡ a + suc m = omega arith in
    ap (range_with_len a) e
    ∙ ap (λ ks. a ∷ ks) (range_append (a + 1) m n ∙ ap (λ k. range_with_len (a + 1) m ++ range_with_len k n) f)

-- a run and the one that follows it are one run
joined : (one more : Run) → IsRun one → IsRun more → more.first ≡ one.last + 1 → registers_in (record { first = one.first; last = more.last }) ≡ registers_in one ++ registers_in more
joined one more h g e =
    let n : more.last + 1 - one.first ≡ (one.last + 1 - one.first) + (more.last + 1 - more.first) = omega (arith, h.some, g.some, e) in
    let f : one.first + (one.last + 1 - one.first) ≡ more.first = omega (arith, h.some, e) in
    ap (range_with_len one.first) n
    ∙ range_append one.first (one.last + 1 - one.first) (more.last + 1 - more.first)
    ∙ ap (λ k. registers_in one ++ range_with_len k (more.last + 1 - more.first)) f

-- the last run made longer
pub longer : (runs : List Run) (k : ℕ) (one more : Run) → one ≡ get_or runs k one → suc k ≡ length runs → AreRuns runs → IsRun more → more.first ≡ one.last + 1 → registers_of (slice_set runs k (record { first = one.first; last = more.last })) ≡ registers_of runs ++ registers_in more
longer [] k one more is end h g e = absurd (omega arith)
longer (x ∷ []) zero one more is end h g e =
    append-nil (registers_in (record { first = one.first; last = more.last }))
    ∙ joined one more (subst IsRun (sym is) (All-head IsRun x [] h)) g e
    ∙ ap (λ (o : Run). registers_in o ++ registers_in more) is
    ∙ ap (λ rs. rs ++ registers_in more) (sym (append-nil (registers_in x)))
longer (x ∷ y ∷ runs) zero one more is end h g e = absurd (omega arith)
longer (x ∷ runs) (suc k) one more is end h g e =
    ap (λ rs. registers_in x ++ rs) (longer runs k one more is (omega arith) (All-tail IsRun x runs h) g e)
    ∙ sym (append_assoc (registers_in x) (registers_of runs) (registers_in more))

pub one_register : (r : ℕ) → range_with_len r (r + 1 - r) ≡ r ∷ []
one_register r = let e : r + 1 - r ≡ 1 = omega arith in ap (range_with_len r) e

-- the first of a run, and those behind it
pub opened : (first last : ℕ) → first ≤ last → range_with_len first (last + 1 - first) ≡ first ∷ range_with_len (first + 1) (last + 1 - (first + 1))
opened first last h =
    let e : last + 1 - first ≡ suc (last + 1 - (first + 1)) = omega (arith, h) in
    ap (range_with_len first) e

-- Members

abbrev pub IsIn : Run → ℕ → Type 0
IsIn run r = (run.first ≤ r) × (r ≤ run.last)

in_run : (run : Run) (r : ℕ) → Contains (registers_in run) r → IsIn run r
in_run run r there =
    let n = run.last + 1 - run.first in
    let inside : there.0 < n = omega (arith, there.1, length-range_with_len run.first n) in
    let is : run.first + there.0 ≡ r = sym (get_or-range_with_len run.first n there.0 r inside) ∙ there.2 in
    (omega (arith, is), omega (arith, is, inside))

of_run : (run : Run) (r : ℕ) → IsIn run r → Contains (registers_in run) r
of_run run r at =
    let n = run.last + 1 - run.first in
    let inside : r - run.first < n = omega (arith, at.0, at.1) in
    let is : run.first + (r - run.first) ≡ r = omega (arith, at.0) in
    (r - run.first, omega (arith, inside, length-range_with_len run.first n), get_or-range_with_len run.first n (r - run.first) r inside ∙ is)

-- a register of runs is in one of them
pub in_one : (runs : List Run) (r : ℕ) → Contains (registers_of runs) r → (k : ℕ) × (k < length runs) × ((d : Run) → IsIn (get_or runs k d) r)
in_one [] r there = absurd (omega (arith, there.1))
in_one (run ∷ runs) r there =
    ⊎_elim
    (λ (here : Contains (registers_in run) r). (0, omega arith, λ (d : Run). in_run run r here))
    (λ (later : Contains (registers_of runs) r). let more = in_one runs r later in (suc more.0, omega (arith, more.1), λ (d : Run). more.2 d))
    (Contains-append_cases (registers_in run) (registers_of runs) r there)

pub of_one : (runs : List Run) (k : ℕ) (d : Run) (r : ℕ) → k < length runs → IsIn (get_or runs k d) r → Contains (registers_of runs) r
of_one [] k d r inside at = absurd (omega (arith, inside))
of_one (run ∷ runs) zero d r inside at = Contains-append_left (registers_in run) (registers_of runs) r (of_run run r at)
of_one (run ∷ runs) (suc k) d r inside at =
    Contains-append_right (registers_in run) (registers_of runs) r (of_one runs k d r (omega (arith, inside)) at)

-- Order

abbrev Less : ℕ → ℕ → Type 0
Less one other = one < other

-- each run ends before the later ones begin
abbrev pub Apart : Run → Run → Type 0
Apart one other = one.last < other.first

module _ (xs ys : List ℕ) where
  across : AllPairs Less (xs ++ ys) → (a b : ℕ) → Contains xs a → Contains ys b → a < b
  across h a b one other =
      let long : length (xs ++ ys) ≡ length xs + length ys = length-append xs ys in
      let p : get_or (xs ++ ys) one.0 a ≡ a = get_or_append_left xs ys a one.0 one.1 ∙ one.2 in
      let less = h one.0 (length xs + other.0) a (omega (arith, one.1)) (omega (arith, long, other.1)) in
      let less_b = h one.0 (length xs + other.0) b (omega (arith, one.1)) (omega (arith, long, other.1)) in
      let q : get_or (xs ++ ys) (length xs + other.0) b ≡ b = get_or-append-add xs ys other.0 b ∙ other.2 in
      let p_b : get_or (xs ++ ys) one.0 b ≡ a = get_or_append_left xs ys b one.0 one.1 ∙ default_of xs one.0 b a one.1 ∙ one.2 in
      subst (λ n. n < b) p_b (subst (λ n. get_or (xs ++ ys) one.0 b < n) q less_b) where
        default_of : (xs : List ℕ) (k d e : ℕ) → k < length xs → get_or xs k d ≡ get_or xs k e
        default_of [] k d e inside = absurd (omega (arith, inside))
        default_of (x ∷ xs) zero d e inside = refl
        default_of (x ∷ xs) (suc k) d e inside = default_of xs k d e (omega (arith, inside))

  behind : AllPairs Less (xs ++ ys) → AllPairs Less ys
  behind h i j d less inside =
      let long : length (xs ++ ys) ≡ length xs + length ys = length-append xs ys in
      let both = h (length xs + i) (length xs + j) d (omega (arith, less)) (omega (arith, long, inside)) in
      subst (λ n. n < get_or ys j d) (get_or-append-add xs ys i d) (subst (λ n. get_or (xs ++ ys) (length xs + i) d < n) (get_or-append-add xs ys j d) both)

later : (x : ℕ) (xs : List ℕ) → AllPairs Less (x ∷ xs) → All (Less x) xs
later x xs h = λ k d less. h 0 (suc k) d (omega arith) (omega arith)

rest_ascends : (x : ℕ) (xs : List ℕ) → AllPairs Less (x ∷ xs) → AllPairs Less xs
rest_ascends x xs h = λ i j d less below. h (suc i) (suc j) d (omega arith) (omega arith)

both_ascend : (xs ys : List ℕ) → AllPairs Less xs → AllPairs Less ys → ((x : ℕ) → Contains xs x → All (Less x) ys) → AllPairs Less (xs ++ ys)
both_ascend [] ys h g between = g
both_ascend (x ∷ xs) ys h g between =
    AllPairs-cons Less x (xs ++ ys)
    (All-append (Less x) xs ys (later x xs h) (between x (0, omega arith, refl)))
    (both_ascend xs ys (rest_ascends x xs h) g (λ y at. between y (suc at.0, omega (arith, at.1), at.2)))

range_ascends : (a n : ℕ) → AllPairs Less (range_with_len a n)
range_ascends a n i j d less below =
    let inside : j < n = omega (arith, length-range_with_len a n, below) in
    omega (arith, get_or-range_with_len a n i d (omega (arith, less, inside)), get_or-range_with_len a n j d inside, less)

-- runs that are apart ascend
pub ascending : (runs : List Run) → AllPairs Apart runs → AllPairs Less (registers_of runs)
ascending [] h = λ i j d less below. absurd (omega (arith, below))
ascending (run ∷ runs) h =
    both_ascend (registers_in run) (registers_of runs) (range_ascends run.first (run.last + 1 - run.first))
    (ascending runs (λ i j d less below. h (suc i) (suc j) d (omega (arith, less)) (omega (arith, below))))
    (λ x here k d below.
    let in_this = in_run run x here in
    let at = in_one runs (get_or (registers_of runs) k d) (Contains-get_or (registers_of runs) k d below) in
    let apart = h 0 (suc at.0) run (omega arith) (omega (arith, at.1)) in
    let there = at.2 run in
    omega (arith, in_this.1, apart, there.0))

-- and runs that ascend are apart
pub apart : (runs : List Run) → AreRuns runs → AllPairs Less (registers_of runs) → AllPairs Apart runs
apart [] each h = λ i j d less below. absurd (omega (arith, below))
apart (run ∷ runs) each h =
    AllPairs-cons Apart run runs
    (λ k d below.
    let this = All-head IsRun run runs each in
    let other = All-tail IsRun run runs each k d below in
    across (registers_in run) (registers_of runs) h run.last (get_or runs k d).first (of_run run run.last (this.some, omega arith)) (of_one runs k d (get_or runs k d).first below (omega arith, other.some)))
    (apart runs (All-tail IsRun run runs each) (behind (registers_in run) (registers_of runs) h))

-- neighbours that are apart
pub neighbours : (runs : List Run) → AreRuns runs → ((k : ℕ) (d : Run) → k + 1 < length runs → (get_or runs k d).last < (get_or runs (k + 1) d).first) → AllPairs Apart runs
neighbours runs each step i zero d less inside = absurd (omega (arith, less))
neighbours runs each step i (suc j) d less inside =
    let e : j + 1 ≡ suc j = omega arith in
    let next : (get_or runs j d).last < (get_or runs (suc j) d).first = subst (λ n. (get_or runs j d).last < (get_or runs n d).first) e (step j d (omega (arith, inside))) in
    let this = each j d (omega (arith, inside)) in
    ⊎_elim
    (λ (before : i < j). let first = neighbours runs each step i j d before (omega (arith, inside)) in omega (arith, first, next, this.some))
    (λ (past : j ≤ i). let same : i ≡ j = omega (arith, past, less) in subst (λ n. (get_or runs n d).last < (get_or runs (suc j) d).first) (sym same) next)
    (cases_lt i j)

-- Below a number

pub all_below : (runs : List Run) (n : ℕ) → All (λ (run : Run). run.last < n) runs → All (λ r. r < n) (registers_of runs)
all_below runs n h = λ k d below.
    let at = in_one runs (get_or (registers_of runs) k d) (Contains-get_or (registers_of runs) k d below) in
    let some : Run = record { first = 0; last = 0 } in
    let there = at.2 some in let end = h at.0 some at.1 in
    omega (arith, there.1, end)

pub last_below : (runs : List Run) (n : ℕ) → AreRuns runs → All (λ r. r < n) (registers_of runs) → All (λ (run : Run). run.last < n) runs
last_below runs n each h = λ k d below.
    let there = of_one runs k d (get_or runs k d).last below ((each k d below).some, omega arith) in
    All-contains (λ r. r < n) (registers_of runs) (get_or runs k d).last h there

-- A register in runs that are apart

module _ (runs : List Run) (each : AreRuns runs) (are_apart : AllPairs Apart runs) where
  -- the later a run, the greater its last register
  pub rising : IsNonDecreasingBy (λ (run : Run). run.last) runs
  rising i j d le below =
      ⊎_elim
      (λ (less : i < j). let next = are_apart i j d less below in let that = each j d below in omega (arith, next, that.some))
      (λ (past : j ≤ i). let same : i ≡ j = omega (arith, le, past) in omega (arith, ap (λ n. (get_or runs n d).last) same))
      (cases_lt i j)

  module _ (r place : ℕ) (split : IsPartitionPoint (λ (run : Run). ltb run.last r ≡ true) (λ (run : Run). ltb run.last r ≡ false) runs place) where
    pub found : (run : Run) → place < length runs → run ≡ get_or runs place run → IsTrue (leb run.first r) ↔ Contains (registers_of runs) r
    found run inside at =
        let is : get_or runs place run ≡ run = sym at in
        let end : r ≤ run.last = ltb-false run.last r (subst (λ (o : Run). ltb o.last r ≡ false) is (split.1 place run (omega arith) inside)) in (
          λ yes. of_one runs place run r inside (subst (λ (o : Run). IsIn o r) (sym is) (leb-true run.first r yes, end)),
          λ there.
              let one = in_one runs r there in
              let here = one.2 run in
              ⊎_elim
              (λ (before : one.0 < place). absurd (let less = ltb-true _ r (split.0 one.0 run (omega arith) before) in omega (arith, less, here.1)))
              (λ (not_before : place ≤ one.0).
              ⊎_elim
              (λ (behind_it : place < one.0).
              absurd (let next = are_apart place one.0 run behind_it one.1 in omega (arith, next, ap (λ (o : Run). o.last) is, here.0, end)))
              (λ (past : one.0 ≤ place).
              let same : one.0 ≡ place = omega (arith, past, not_before) in
              le-leb run.first r (omega (arith, here.0, ap (λ n. (get_or runs n run).first) same, ap (λ (o : Run). o.first) is)))
              (cases_lt place one.0))
              (cases_lt one.0 place),
        )

    pub not_found : length runs ≤ place → Contains (registers_of runs) r → ⊥
    not_found past there =
        let one = in_one runs r there in
        let some : Run = record { first = 0; last = 0 } in
        let here = one.2 some in
        let less = ltb-true _ r (split.0 one.0 some (omega arith) (omega (arith, one.1, past))) in
        omega (arith, less, here.1)

-- What is left

pub left_in : (next end : ℕ) (runs : List Run) → next < end → registers_left next end runs ≡ next ∷ registers_left (next + 1) end runs
left_in next end runs less =
    let e : end - next ≡ suc (end - (next + 1)) = omega (arith, less) in
    ap (λ n. range_with_len next n ++ registers_of runs) e

pub left_run : (next end : ℕ) (run : Run) (others runs : List Run) → end ≤ next → runs ≡ run ∷ others → IsRun run → registers_left next end runs ≡ run.first ∷ registers_left (run.first + 1) (run.last + 1) others
left_run next end run others runs past is h =
    let e : end - next ≡ 0 = omega (arith, past) in
    ap (λ n. range_with_len next n ++ registers_of runs) e
    ∙ ap registers_of is
    ∙ ap (λ rs. rs ++ registers_of others) (opened run.first run.last h.some)

pub left_none : (next end : ℕ) (runs : List Run) → end ≤ next → runs ≡ [] → registers_left next end runs ≡ []
left_none next end runs past is =
    let e : end - next ≡ 0 = omega (arith, past) in
    ap (λ n. range_with_len next n ++ registers_of runs) e ∙ ap registers_of is

-- How many

pub counted_more : (count more first last : ℕ) (old new : List Run) → count ≡ length (registers_of old) → first ≤ last → registers_of new ≡ registers_of old ++ range_with_len first (last + 1 - first) → more ≡ last - first + 1 → count + more ≡ length (registers_of new)
counted_more count more first last old new is le added many =
    omega (arith, is, le, many, ap length added, length-append (registers_of old) (range_with_len first (last + 1 - first)), length-range_with_len first (last + 1 - first))

pub same_item : (runs : List Run) (k : ℕ) (one other : Run) → k < length runs → one ≡ get_or runs k one → other ≡ get_or runs k other → one ≡ other
same_item [] k one other inside is are = absurd (omega (arith, inside))
same_item (run ∷ runs) zero one other inside is are = is ∙ sym are
same_item (run ∷ runs) (suc k) one other inside is are = same_item runs k one other (omega (arith, inside)) is are
