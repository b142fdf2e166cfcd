-- What a walk over the heap tells of its objects by their lines of birth.
use Rattle.std.proofs.Common.{◌≡◌, ◌<◌, ◌≤◌, ◌+◌, ◌-◌, ◌*◌, ◌/◌, ◌%◌, ◌^◌, ◌∙◌, ◌⊎◌, inl, inr, ℕ, zero, Bool, true, false, cond, not, Option, Some, None, List, [], ◌∷◌, length, get_or, refl, sym, ap, subst, arith}
use Rattle.std.specs.Prelude.{All, Contains, filter, nat_eq, nat_lt}
use Rattle.std.specs.List.{sum_by}
use Rattle.std.proofs.lemmas.Bool.{and_from, and_parts, cases_Bool, cases_eq, cases_lt, cond-true, cond-false, eq-eqb, ne_eqb, lt-ltb, le-ltb, not-true, not_from_false}
use Rattle.std.proofs.lemmas.List.{get_or_default}
use Rattle.std.proofs.lemmas.List.Elements.{All-contains, All-map}
use Rattle.std.proofs.lemmas.List.Sums.{sum_by-cons}
use Rattle.hs_base.specs.declared.ends.Leak.{Leak}
use Rattle.hs_base.specs.Freeing.{is_heap}
use Rattle.hs_base.specs.Object as object
use Rattle.hs_base.specs.Object.{Object, Sort, is_dead, no_object, object_at}
use Rattle.hs_base.specs.Place.{block_size}
use Rattle.heap_blocks.specs.declared.headers.Header.{Header}
use Rattle.flat_objects.specs.Memory.{Memory, IsMemory, end_of, heap_of}
use Rattle.flat_objects.specs.Standing.{IsThere}
use Rattle.flat_objects.specs.Keeping.{Keeps, IsHeaderOf, IsLineOf}
use Rattle.flat_objects.specs.Leaks.{IsHeaderAt, all_left, is_left, leak_of, left_of, lesser, line_of_birth, lines_left, next_line, with_line, with_object}
use Rattle.flat_objects.specs.Tries.{IsHeapStart}
use Rattle.flat_objects.proofs.Blocks.{there_below}
use Rattle.flat_objects.proofs.Least.{IsLeastAbove, least_beside, least_first, least_more, least_one, least_same, reduced_is_least}
use Rattle.flat_objects.proofs.Members.{contains_kept}
use Rattle.flat_objects.proofs.Numbers.{whole}
use Rattle.flat_objects.proofs.Owners.{own_inside, own_is_block}
use Rattle.flat_objects.specs.KeptEquations.{all_kept}
use Rattle.flat_objects.proofs.Queueing.{range_heap}
use Rattle.flat_objects.proofs.Sought.{same_place}
use Rattle.flat_objects.proofs.Tallies.{met_value, sum_ones, sum_placed, sum_to, sum_to_both, sum_to_none, sum_to_same}

-- an object of the heap that is not dead starts below an address, and was born at a line
pub record IsBornBelow (places : ℕ → ℕ) (objects : List Object) (below line : ℕ) : Type 0 where
  pub birth : ℕ
  pub there : IsThere objects birth
  pub heap : is_heap (object_at objects birth).sort ≡ true
  pub low : places birth < below
  pub born : line_of_birth (object_at objects birth).sort ≡ line

-- the line in a header of such an object is that of its birth
pub line_in : (s : Sort) (line : ℕ) → is_heap s ≡ true → IsLineOf s line → line ≡ line_of_birth s
line_in (object.Static index) line heap is = absurd (cc)
line_in (object.Local func index) line heap is = absurd (cc)
line_in (object.Heap born) line heap is = is

-- Sums over the objects that are left and pass a test

-- was an object born at a line?
abbrev pub of_line : ℕ → Object → Bool
of_line line o = nat_eq (line_of_birth o.sort) line

-- what an object weighs, if it is left and passes a test
abbrev pub weigh : (Object → ℕ) → (Object → Bool) → Object → ℕ
weigh f test o = cond (is_left o) (cond (test o) (f o) 0) 0

-- the same, of those that start below an address
abbrev pub sum_below : (ℕ → ℕ) → List Object → (Object → ℕ) → (Object → Bool) → ℕ → ℕ
sum_below places objects f test below =
    sum_to (λ b. cond (nat_lt (places b) below) (weigh f test (object_at objects b)) 0) (length objects)

abbrev pub one_each : Object → ℕ
one_each o = 1

abbrev pub size_each : Object → ℕ
size_each o = o.size

none_either : (t : Bool) (n : ℕ) → n ≡ 0 → cond t n 0 ≡ 0
none_either true n none = none
none_either false n none = refl

-- the sum over those that pass a test
sum_passed : {X : Type 0} (f : X → ℕ) (p : X → Bool) (xs : List X) → sum_by f (filter p xs) ≡ sum_by (λ x. cond (p x) (f x) 0) xs
sum_passed f p [] = refl
sum_passed f p (x ∷ xs) =
    let rest = sum_passed f p xs in
    let step = sum_by-cons (λ x. cond (p x) (f x) 0) x xs in
    elim (cases_Bool (p x)) [
      | inl passes ↦
          let kept : sum_by f (filter p (x ∷ xs)) ≡ sum_by f (x ∷ filter p xs) = ap (sum_by f) (cond-true (p x) (x ∷ filter p xs) (filter p xs) passes) in
          let first = sum_by-cons f x (filter p xs) in
          let here : cond (p x) (f x) 0 ≡ f x = cond-true (p x) (f x) 0 passes in
          omega arith
      | inr fails ↦
          let kept : sum_by f (filter p (x ∷ xs)) ≡ sum_by f (filter p xs) = ap (sum_by f) (cond-false (p x) (x ∷ filter p xs) (filter p xs) fails) in
          let here : cond (p x) (f x) 0 ≡ zero = cond-false (p x) (f x) 0 fails in
          omega arith
    ]

-- the sum over what is left and passes a test
sum_left : (objects : List Object) (f : Object → ℕ) (test : Object → Bool) → sum_by f (filter test (all_left objects)) ≡ sum_by (weigh f test) objects
sum_left objects f test =
    sum_passed f test (all_left objects) ∙ sum_passed (λ (o : Object). cond (test o) (f o) 0) is_left objects

blocks_are : (t : Bool) (leak : Leak) (header : Header) → (let more : Leak = record leak { blocks = leak.blocks + 1; bytes = leak.bytes + header.size } in (cond t more leak).blocks ≡ cond t (leak.blocks + 1) leak.blocks)
blocks_are true leak header = refl
blocks_are false leak header = refl

bytes_are : (t : Bool) (leak : Leak) (header : Header) → (let more : Leak = record leak { blocks = leak.blocks + 1; bytes = leak.bytes + header.size } in (cond t more leak).bytes ≡ cond t (leak.bytes + header.size) leak.bytes)
bytes_are true leak header = refl
bytes_are false leak header = refl

pub line_met : (leak : Leak) (found : Option Header) → (with_object leak found).line ≡ leak.line
line_met leak None = refl
line_met leak (Some header) = same (nat_eq header.line leak.line) where
  same : (t : Bool) → (let more : Leak = record leak { blocks = leak.blocks + 1; bytes = leak.bytes + header.size } in (cond t more leak).line ≡ leak.line)
  same true = refl
  same false = refl

pub few_met : (n : ℕ) (leak : Leak) (found : Option Header) → leak.blocks ≤ n → (with_object leak found).blocks ≤ n + 1
few_met n leak None few = omega arith
few_met n leak (Some header) few =
    subst (λ m. m ≤ n + 1) (sym (blocks_are (nat_eq header.line leak.line) leak header)) (one_more (nat_eq header.line leak.line)) where
      one_more : (t : Bool) → cond t (leak.blocks + 1) leak.blocks ≤ n + 1
      one_more true = omega arith
      one_more false = omega arith

module _ (locals heap : ℕ) (memory : Memory) (shape : IsMemory locals heap memory) (places : ℕ → ℕ) (objects : List Object) (keeps : Keeps memory places objects) where
  -- what is left is there, in the heap
  pub record IsLeftAt (b : ℕ) : Type 0 where
    pub there : IsThere objects b
    pub heap_sort : is_heap (object_at objects b).sort ≡ true

  left_at : (b : ℕ) → is_left (object_at objects b) ≡ true → IsLeftAt b
  left_at b left =
      let o = object_at objects b in
      let both = and_parts (is_heap o.sort) (not (is_dead o.standing)) left in
      record { there = not-true (is_dead o.standing) both.1; heap_sort = both.0 }

  left_from : (b : ℕ) → IsThere objects b → is_heap (object_at objects b).sort ≡ true → is_left (object_at objects b) ≡ true
  left_from b there heap_sort =
      let o = object_at objects b in
      and_from (is_heap o.sort) (not (is_dead o.standing)) heap_sort (not_from_false (is_dead o.standing) there)

  -- where an object of the heap starts: at the start of a granule, behind the base, and in front of the last granule
  pub record IsSpot (b : ℕ) : Type 0 where
    pub even : places b % 16 ≡ 0
    pub above : memory.heap.base ≤ places b
    pub below : places b < 16 * (end_of memory.heap / 16)

  pub spot : (b : ℕ) → IsThere objects b → is_heap (object_at objects b).sort ≡ true → IsSpot b
  spot b there heap_sort =
      let own = range_heap (object_at objects b).sort heap_sort in
      let w = whole locals heap memory shape places objects keeps b there in
      let block = own_is_block memory places objects keeps b there in
      let room = subst (λ r. (heap_of memory r).base + 32 ≤ places b) own (keeps.standing b there).room in
      let long : 48 ≤ block_size (object_at objects b).size = block.room in
      let within = subst (λ r. places b - ((heap_of memory r).base + 32) + block_size (object_at objects b).size ≤ (heap_of memory r).len) own block.within in
      let even : places b % 16 ≡ 0 = omega (arith, w.start) in
      record { even = even; above = omega arith; below = omega arith }

  -- one granule more
  next_granule : (b n : ℕ) → IsSpot b → places b < 16 * (n + 1) → (places b < 16 * n) ⊎ (places b ≡ 16 * n)
  next_granule b n at below =
      elim (cases_lt (places b) (16 * n)) [ inl h ↦ inl h | inr h ↦ inr (omega (arith, at.even)) ]

  -- Lines

  later : (n line : ℕ) → IsBornBelow places objects (16 * n) line → IsBornBelow places objects (16 * (n + 1)) line
  later n line is = record { birth = is.birth; there = is.there; heap = is.heap; low = omega (arith, is.low); born = is.born }

  pub no_line_yet : (after n : ℕ) → 16 * n ≤ memory.heap.base → IsLeastAbove (IsBornBelow places objects (16 * n)) after None
  no_line_yet after n low line is =
      let at = spot is.birth is.there is.heap in absurd (omega (arith, is.low, at.above))

  -- where no object starts there are no other lines
  nothing_new : (n line : ℕ) → (IsHeapStart places objects (16 * n) → ⊥) → IsBornBelow places objects (16 * (n + 1)) line → IsBornBelow places objects (16 * n) line
  nothing_new n line none is =
      elim (next_granule is.birth n (spot is.birth is.there is.heap) is.low) [
        | inl h ↦ record { birth = is.birth; there = is.there; heap = is.heap; low = h; born = is.born }
        | inr e ↦ absurd (none (record { birth = is.birth; there = is.there; heap = is.heap; address = sym e }))
      ]

  -- where one does there is its line
  module _ (n : ℕ) (header : Header) (start : IsHeapStart places objects (16 * n)) (is_header : IsHeaderOf header start.birth (object_at objects start.birth)) where
    own_line : header.line ≡ line_of_birth (object_at objects start.birth).sort
    own_line = line_in (object_at objects start.birth).sort header.line start.heap is_header.line

    new_line : IsBornBelow places objects (16 * (n + 1)) header.line
    new_line = record { birth = start.birth; there = start.there; heap = start.heap; low = omega (arith, start.address); born = sym own_line }

    its_own : (b : ℕ) → IsThere objects b → places b ≡ 16 * n → b ≡ start.birth
    its_own b there e =
        same_place locals heap memory shape places objects keeps b start.birth there start.there (e ∙ start.address)

    one_new : (line : ℕ) → IsBornBelow places objects (16 * (n + 1)) line → IsBornBelow places objects (16 * n) line ⊎ (line ≡ header.line)
    one_new line is =
        elim (next_granule is.birth n (spot is.birth is.there is.heap) is.low) [
          | inl h ↦ inl (record { birth = is.birth; there = is.there; heap = is.heap; low = h; born = is.born })
          | inr e ↦ inr (sym is.born ∙ ap (λ b. line_of_birth (object_at objects b).sort) (its_own is.birth is.there e) ∙ sym own_line)
        ]

    next_some : (after : ℕ) (least : Option ℕ) → IsLeastAbove (IsBornBelow places objects (16 * n)) after least → IsLeastAbove (IsBornBelow places objects (16 * (n + 1))) after (with_line after least (Some header))
    next_some after least is =
        let P = IsBornBelow places objects (16 * n) in
        let Q = IsBornBelow places objects (16 * (n + 1)) in
        elim (cases_lt after header.line) [
          | inr low ↦
              let same : with_line after least (Some header) ≡ least = cond-false (nat_lt after header.line) (Some (lesser least header.line)) least (le-ltb after header.line low) in
              subst (IsLeastAbove Q after) (sym same) (least_beside P Q after header.line least (later n) one_new low is)
          | inl above ↦
              let same : with_line after least (Some header) ≡ Some (lesser least header.line) = cond-true (nat_lt after header.line) (Some (lesser least header.line)) least (lt-ltb after header.line above) in
              subst (IsLeastAbove Q after) (sym same) (taken above least is)
        ] where
          taken : after < header.line → (least : Option ℕ) → IsLeastAbove (IsBornBelow places objects (16 * n)) after least → IsLeastAbove (IsBornBelow places objects (16 * (n + 1))) after (Some (lesser least header.line))
          taken above None is =
              least_first (IsBornBelow places objects (16 * n)) (IsBornBelow places objects (16 * (n + 1))) after header.line new_line one_new above is
          taken above (Some least) is =
              least_more (IsBornBelow places objects (16 * n)) (IsBornBelow places objects (16 * (n + 1))) after header.line least (later n) new_line one_new above is

  pub next_met : (after n : ℕ) (least next : Option ℕ) (found : Option Header) → next ≡ with_line after least found → IsLeastAbove (IsBornBelow places objects (16 * n)) after least → IsHeaderAt places objects (16 * n) found → IsLeastAbove (IsBornBelow places objects (16 * (n + 1))) after next
  next_met after n least next found next_is is met =
      subst (IsLeastAbove (IsBornBelow places objects (16 * (n + 1))) after) (sym next_is) (with_found found met) where
        with_found : (found : Option Header) → IsHeaderAt places objects (16 * n) found → IsLeastAbove (IsBornBelow places objects (16 * (n + 1))) after (with_line after least found)
        with_found None none =
            least_same (IsBornBelow places objects (16 * n)) (IsBornBelow places objects (16 * (n + 1))) after least (later n) (λ line. nothing_new n line none) is
        with_found (Some header) met = next_some n header met.0 met.1 after least is

  -- all objects of the heap start below its end
  pub next_is : (after n : ℕ) (least : Option ℕ) → end_of memory.heap / 16 ≤ n → IsLeastAbove (IsBornBelow places objects (16 * n)) after least → least ≡ next_line after objects
  next_is after n least past is =
      least_one (Contains (lines_left objects)) after least (next_line after objects)
      (least_same (IsBornBelow places objects (16 * n)) (Contains (lines_left objects)) after least listed (λ line at. All-contains (IsBornBelow places objects (16 * n)) (lines_left objects) line all_born at) is)
      (reduced_is_least after (lines_left objects)) where
        listed : (line : ℕ) → IsBornBelow places objects (16 * n) line → Contains (lines_left objects) line
        listed line born =
            let below = there_below objects born.birth born.there in
            subst (Contains (lines_left objects)) born.born
            (contains_kept (λ (o : Object). line_of_birth o.sort) is_left objects born.birth no_object below (left_from born.birth born.there born.heap))

        all_born : All (IsBornBelow places objects (16 * n)) (lines_left objects)
        all_born =
            All-map (IsBornBelow places objects (16 * n)) (λ (o : Object). line_of_birth o.sort) (all_left objects)
            (all_kept (λ (o : Object). IsBornBelow places objects (16 * n) (line_of_birth o.sort)) is_left objects
            (λ k d less passes. let here : object_at objects k ≡ get_or objects k d = get_or_default objects k no_object d less in
            let left = left_at k (ap is_left here ∙ passes) in
            let at = spot k left.there left.heap_sort in
            record { birth = k; there = left.there; heap = left.heap_sort; low = omega (arith, at.below); born = ap (λ (o : Object). line_of_birth o.sort) here }))

  -- Sums

  module _ (f : Object → ℕ) (test : Object → Bool) where
    abbrev weight : ℕ → ℕ
    weight b = weigh f test (object_at objects b)

    abbrev part : ℕ → ℕ → ℕ
    part below b = cond (nat_lt (places b) below) (weight b) 0

    -- what is not left weighs nothing
    no_weight : (b : ℕ) → is_left (object_at objects b) ≡ false → weight b ≡ 0
    no_weight b out =
        cond-false (is_left (object_at objects b)) (cond (test (object_at objects b)) (f (object_at objects b)) 0) 0 out

    pub no_sum_yet : (n : ℕ) → 16 * n ≤ memory.heap.base → sum_below places objects f test (16 * n) ≡ 0
    no_sum_yet n low =
        sum_to_same (part (16 * n)) (λ b. 0) (length objects) (λ b less. each b) ∙ sum_to_none (length objects) where
          each : (b : ℕ) → part (16 * n) b ≡ 0
          each b =
              elim (cases_Bool (is_left (object_at objects b))) [
                | inr out ↦ none_either (nat_lt (places b) (16 * n)) (weight b) (no_weight b out)
                | inl left ↦
                    let l = left_at b left in
                    let at = spot b l.there l.heap_sort in
                    cond-false (nat_lt (places b) (16 * n)) (weight b) 0 (le-ltb (places b) (16 * n) (omega (arith, at.above)))
              ]

    -- one granule more changes nothing of an object that does not start there
    part_beside : (n b : ℕ) → (IsLeftAt b → places b ≡ 16 * n → ⊥) → part (16 * (n + 1)) b ≡ part (16 * n) b
    part_beside n b other =
        elim (cases_Bool (is_left (object_at objects b))) [
          | inr out ↦ none_either (nat_lt (places b) (16 * (n + 1))) (weight b) (no_weight b out) ∙ sym (none_either (nat_lt (places b) (16 * n)) (weight b) (no_weight b out))
          | inl left ↦
              let l = left_at b left in
              let at = spot b l.there l.heap_sort in
              elim (cases_lt (places b) (16 * (n + 1))) [
                | inr high ↦
                    cond-false (nat_lt (places b) (16 * (n + 1))) (weight b) 0 (le-ltb (places b) (16 * (n + 1)) high)
                    ∙ sym (cond-false (nat_lt (places b) (16 * n)) (weight b) 0 (le-ltb (places b) (16 * n) (omega arith)))
                | inl low ↦ elim (next_granule b n at low) [
                  | inl lower ↦
                      cond-true (nat_lt (places b) (16 * (n + 1))) (weight b) 0 (lt-ltb (places b) (16 * (n + 1)) low)
                      ∙ sym (cond-true (nat_lt (places b) (16 * n)) (weight b) 0 (lt-ltb (places b) (16 * n) lower))
                  | inr e ↦ absurd (other l e)
                ]
              ]
        ]

    pub sum_none : (n : ℕ) → (IsHeapStart places objects (16 * n) → ⊥) → sum_below places objects f test (16 * (n + 1)) ≡ sum_below places objects f test (16 * n)
    sum_none n none =
        sum_to_same (part (16 * (n + 1))) (part (16 * n)) (length objects)
        (λ b less. part_beside n b (λ l e. none (record { birth = b; there = l.there; heap = l.heap_sort; address = sym e })))

    pub sum_some : (n : ℕ) (start : IsHeapStart places objects (16 * n)) → sum_below places objects f test (16 * (n + 1)) ≡ sum_below places objects f test (16 * n) + weight start.birth
    sum_some n start =
        sum_to_same (part (16 * (n + 1))) (λ b. part (16 * n) b + cond (nat_eq start.birth b) (weight b) 0) (length objects) (λ b less. each b)
        ∙ sum_to_both (part (16 * n)) (λ b. cond (nat_eq start.birth b) (weight b) 0) (length objects)
        ∙ ap (λ m. sum_below places objects f test (16 * n) + m) (met_value weight start.birth (length objects) (there_below objects start.birth start.there)) where
          each : (b : ℕ) → part (16 * (n + 1)) b ≡ part (16 * n) b + cond (nat_eq start.birth b) (weight b) 0
          each b =
              elim (cases_eq start.birth b) [
                | inl e ↦
                    let place : places b ≡ 16 * n = ap places (sym e) ∙ sym start.address in
                    let more : part (16 * (n + 1)) b ≡ weight b = cond-true (nat_lt (places b) (16 * (n + 1))) (weight b) 0 (lt-ltb (places b) (16 * (n + 1)) (omega arith)) in
                    let before : part (16 * n) b ≡ zero = cond-false (nat_lt (places b) (16 * n)) (weight b) 0 (le-ltb (places b) (16 * n) (omega arith)) in
                    let own : cond (nat_eq start.birth b) (weight b) 0 ≡ weight b = cond-true (nat_eq start.birth b) (weight b) 0 (eq-eqb start.birth b e) in
                    omega arith
                | inr differ ↦
                    let same = part_beside n b (λ l place. differ (sym (same_place locals heap memory shape places objects keeps b start.birth l.there start.there (place ∙ start.address)))) in
                    let own : cond (nat_eq start.birth b) (weight b) 0 ≡ zero = cond-false (nat_eq start.birth b) (weight b) 0 (ne_eqb start.birth b differ) in
                    omega arith
              ]

    -- the sum with what was met next
    pub sum_met : (n : ℕ) (start : IsHeapStart places objects (16 * n)) (passes : Bool) → passes ≡ test (object_at objects start.birth) → (so_far : ℕ) → so_far ≡ sum_below places objects f test (16 * n)
        → cond passes (so_far + f (object_at objects start.birth)) so_far ≡ sum_below places objects f test (16 * (n + 1))
    sum_met n start passes tested so_far is =
        let o = object_at objects start.birth in
        let some = sum_some n start in
        let own : weight start.birth ≡ cond passes (f o) 0 = cond-true (is_left o) (cond (test o) (f o) 0) 0 (left_from start.birth start.there start.heap) ∙ ap (λ t. cond t (f o) 0) (sym tested) in
        added passes own ∙ sym some where
          added : (t : Bool) → weight start.birth ≡ cond t (f (object_at objects start.birth)) 0 → cond t (so_far + f (object_at objects start.birth)) so_far ≡ sum_below places objects f test (16 * n) + weight start.birth
          added true own = omega arith
          added false own = omega arith

    -- all objects of the heap start below its end
    pub sum_is : (n : ℕ) → end_of memory.heap / 16 ≤ n → sum_below places objects f test (16 * n) ≡ sum_by f (filter test (all_left objects))
    sum_is n past =
        sum_to_same (part (16 * n)) weight (length objects) (λ b less. each b) ∙ sym (sum_placed (weigh f test) objects no_object) ∙ sym (sum_left objects f test) where
          each : (b : ℕ) → part (16 * n) b ≡ weight b
          each b =
              elim (cases_Bool (is_left (object_at objects b))) [
                | inr out ↦ none_either (nat_lt (places b) (16 * n)) (weight b) (no_weight b out) ∙ sym (no_weight b out)
                | inl left ↦
                    let l = left_at b left in
                    let at = spot b l.there l.heap_sort in
                    cond-true (nat_lt (places b) (16 * n)) (weight b) 0 (lt-ltb (places b) (16 * n) (omega (arith, at.below)))
              ]

  -- A leak with what was met next

  -- a header tells whether its object was born at a line
  line_tested : (line n : ℕ) (header : Header) (start : IsHeapStart places objects (16 * n)) → IsHeaderOf header start.birth (object_at objects start.birth) → nat_eq header.line line ≡ of_line line (object_at objects start.birth)
  line_tested line n header start is_header = ap (λ l. nat_eq l line) (own_line n header start is_header)

  pub blocks_met : (line n : ℕ) (leak : Leak) (found : Option Header) → IsHeaderAt places objects (16 * n) found → leak.line ≡ line → leak.blocks ≡ sum_below places objects one_each (of_line line) (16 * n) → (with_object leak found).blocks ≡ sum_below places objects one_each (of_line line) (16 * (n + 1))
  blocks_met line n leak None none own is = is ∙ sym (sum_none one_each (of_line line) n none)
  blocks_met line n leak (Some header) met own is =
      blocks_are (nat_eq header.line leak.line) leak header ∙ ap (λ l. cond (nat_eq header.line l) (leak.blocks + 1) leak.blocks) own ∙ sum_met one_each (of_line line) n met.0 (nat_eq header.line line) (line_tested line n header met.0 met.1) leak.blocks is

  pub bytes_met : (line n : ℕ) (leak : Leak) (found : Option Header) → IsHeaderAt places objects (16 * n) found → leak.line ≡ line → leak.bytes ≡ sum_below places objects size_each (of_line line) (16 * n) → (with_object leak found).bytes ≡ sum_below places objects size_each (of_line line) (16 * (n + 1))
  bytes_met line n leak None none own is = is ∙ sym (sum_none size_each (of_line line) n none)
  bytes_met line n leak (Some header) met own is =
      bytes_are (nat_eq header.line leak.line) leak header ∙ (λ i. cond (nat_eq header.line (own i)) (leak.bytes + met.1.size i) leak.bytes) ∙ sum_met size_each (of_line line) n met.0 (nat_eq header.line line) (line_tested line n header met.0 met.1) leak.bytes is

  pub small_met : (n : ℕ) (leak : Leak) (found : Option Header) → IsHeaderAt places objects (16 * n) found → leak.bytes ≤ 2 ^ 32 * n → (with_object leak found).bytes ≤ 2 ^ 32 * (n + 1)
  small_met n leak None none small = omega arith
  small_met n leak (Some header) met small =
      let inside = own_inside memory places objects keeps met.0.birth met.0.there locals heap shape in
      let size : header.size < 2 ^ 32 = omega (arith, met.1.size, shape.reach) in
      subst (λ m. m ≤ 2 ^ 32 * (n + 1)) (sym (bytes_are (nat_eq header.line leak.line) leak header)) (one_more (nat_eq header.line leak.line) size) where
        one_more : (t : Bool) → header.size < 2 ^ 32 → cond t (leak.bytes + header.size) leak.bytes ≤ 2 ^ 32 * (n + 1)
        one_more true size = omega arith
        one_more false size = omega arith

  pub leak_is : (line n : ℕ) (leak : Leak) → end_of memory.heap / 16 ≤ n → leak.line ≡ line → leak.blocks ≡ sum_below places objects one_each (of_line line) (16 * n) → leak.bytes ≡ sum_below places objects size_each (of_line line) (16 * n) → leak ≡ leak_of objects line
  leak_is line n leak past own blocks bytes =
      let all_blocks = blocks ∙ sum_is one_each (of_line line) n past ∙ sum_ones (left_of objects line) in
      let all_bytes = bytes ∙ sum_is size_each (of_line line) n past in
      λ i. record { line = own i; blocks = all_blocks i; bytes = all_bytes i }
