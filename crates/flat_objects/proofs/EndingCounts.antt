-- The counts at the end of memory locals: those without the pointers inside them, and the first local to which one is left.
use Rattle.std.proofs.Common.{◌≡◌, ◌<◌, ◌≤◌, ◌+◌, ◌-◌, ◌/◌, ◌^◌, ◌∙◌, inl, inr, ℕ, zero, suc, Bool, true, false, cond, not, Option, Some, None, List, [], ◌∷◌, length, get_or, refl, sym, ap, subst, arith}
use Rattle.std.specs.Prelude.{All, AllPairs, map, nat_eq, nat_lt, slice_get, slice_index, ◌≢◌}
use Rattle.std.specs.List.{count_by, position, position_or_len, prefix_len, sum_by}
use Rattle.std.proofs.lemmas.Bool.{cases_Bool, cases_lt, cond-true, cond-false, eq-eqb, eqb-true, lt-ltb, le-ltb}
use Rattle.std.proofs.lemmas.List.{get_or_default, length-map}
use Rattle.std.proofs.lemmas.List.Elements.{All-append, All-map, All-nil}
use Rattle.std.proofs.lemmas.List.Quantifiers.{position-Some}
use Rattle.std.proofs.lemmas.List.Sums.{fails_before_first, get_or-le-sum_by, position_or_len_is, sum_by-append, sum_by-cons}
use Rattle.std.proofs.lemmas.Option.{slice_get-get_or, slice_get_within}
use Rattle.hs_base.specs.declared.values.Pointer.{Pointer}
use Rattle.hs_base.specs.declared.values.Pointer.TheVariants as pointer
use Rattle.hs_base.specs.Freeing.{end_numbers, ended, first_held, is_pointer_to, objects_of, pointers_inside, pointers_to}
use Rattle.hs_base.specs.Object.{Object, no_object, object_at}
use Rattle.hs_base.specs.Place.{block_size}
use Rattle.heap_blocks.specs.Heads.{header_at}
use Rattle.count_table.specs.Table.{Table}
use Rattle.delay_scopes.specs.Check.{granules_of}
use Rattle.delay_scopes.specs.Pointers.{LowersBy, into_granule, words_inside}
use Rattle.delay_scopes.specs.Queue.{header_of}
use Rattle.delay_scopes.specs.Walks.{IsInside}
use Rattle.flat_objects.specs.Memory.{Memory, IsMemory}
use Rattle.flat_objects.specs.Standing.{IsThere}
use Rattle.flat_objects.specs.Counting.{AreCounts, Frees, LeadsSomewhere, leads_into, living_pointers, pointers_in}
use Rattle.flat_objects.specs.Freeing.{number_of}
use Rattle.flat_objects.specs.EndingSteps.{AreCoveredAt, MayCheck, pointers_beside}
use Rattle.flat_objects.proofs.Apart.{objects_apart}
use Rattle.flat_objects.proofs.Numbers.{granules_number, none_past, whole, words_lead_all}
use Rattle.flat_objects.proofs.Owners.{own_inside}
use Rattle.flat_objects.proofs.Placed.{all_flat, inside_lead, living_lead}
use Rattle.flat_objects.proofs.Released.{from_among, none_held, number_zero}
use Rattle.flat_objects.specs.SumEquations.{sum_mapped, sum_same}
use Rattle.flat_objects.proofs.Tallies.{count_one, met_in, one_if, sum_ones, sum_ranged, sum_to, sum_to_ones, sum_to_same, sums_swapped}
use Rattle.flat_objects.specs.EndingEquations.{at_ended, dead_if, ended_size, is_ending, stays_there, living_ended}

-- The first that passes a test

pub position_found : (p : ℕ → Bool) (xs : List ℕ) (i : ℕ) → i < length xs → ((k : ℕ) → k < i → p (get_or xs k 0) ≡ false) → p (get_or xs i 0) ≡ true → position p xs ≡ Some i
position_found p xs i less before here =
    let at : position_or_len p xs ≡ i = position_or_len_is p xs i 0 (omega arith) before (λ _. here) in
    ap (λ n. let r : Option ℕ = cond (nat_lt n (length xs)) (Some n) None in r) at ∙ cond-true (nat_lt i (length xs)) (Some i) None (lt-ltb i (length xs) less)

pub position_none : (p : ℕ → Bool) (xs : List ℕ) → ((k : ℕ) → k < length xs → p (get_or xs k 0) ≡ false) → position p xs ≡ None
position_none p xs none =
    let n = length xs in
    let at : position_or_len p xs ≡ n = position_or_len_is p xs n 0 (omega arith) none (λ less. absurd (omega arith)) in
    ap (λ m. let r : Option ℕ = cond (nat_lt m (length xs)) (Some m) None in r) at ∙ cond-false (nat_lt n n) (Some n) None (le-ltb n n (omega arith))

prefix_mapped : (f : ℕ → ℕ) (p q : ℕ → Bool) (xs : List ℕ) → ((k d : ℕ) → k < length xs → p (f (get_or xs k d)) ≡ q (get_or xs k d)) → prefix_len (λ x. not (p x)) (map f xs) ≡ prefix_len (λ x. not (q x)) xs
prefix_mapped f p q [] same = refl
prefix_mapped f p q (x ∷ xs) same =
    let rest = prefix_mapped f p q xs (λ k d less. same (suc k) d (omega arith)) in
    let here : p (f x) ≡ q x = same 0 x (omega arith) in
    λ i. cond (not (here i)) (1 + rest i) 0

position_mapped : (f : ℕ → ℕ) (p q : ℕ → Bool) (xs : List ℕ) → ((k d : ℕ) → k < length xs → p (f (get_or xs k d)) ≡ q (get_or xs k d)) → position p (map f xs) ≡ position q xs
position_mapped f p q xs same =
    let at = prefix_mapped f p q xs same in
    let long = length-map xs f in
    λ i. cond (nat_lt (at i) (long i)) (Some (at i)) None

first_at : (q : ℕ → Bool) (xs : List ℕ) (k : ℕ) → k < length xs → ((j : ℕ) → j < k → q (get_or xs j 0) ≡ false) → q (get_or xs k 0) ≡ true → first_held q xs ≡ Some (get_or xs k 0)
first_at q [] k less before here = absurd (omega arith)
first_at q (x ∷ xs) zero less before here = cond-true (q x) (Some x) (first_held q xs) here
first_at q (x ∷ xs) (suc k) less before here =
    cond-false (q x) (Some x) (first_held q xs) (before 0 (omega arith)) ∙ first_at q xs k (omega arith) (λ j under. before (suc j) (omega arith)) here

first_none : (q : ℕ → Bool) (xs : List ℕ) → ((k : ℕ) → k < length xs → q (get_or xs k 0) ≡ false) → first_held q xs ≡ None
first_none q [] none = refl
first_none q (x ∷ xs) none =
    cond-false (q x) (Some x) (first_held q xs) (none 0 (omega arith)) ∙ first_none q xs (λ k less. none (suc k) (omega arith))

-- the first index names the first item
pub first_named : (q : ℕ → Bool) (xs : List ℕ) (k : ℕ) → Some k ≡ position q xs → (item : ℕ) × (first_held q xs ≡ Some item) × (slice_get xs k ≡ Some item)
first_named q xs k found =
    let at = position-Some q xs k 0 (sym found) in
    (get_or xs k 0, first_at q xs k at.0 at.2 at.1, slice_get-get_or xs k 0 at.0)

pub none_named : (q : ℕ → Bool) (xs : List ℕ) → None ≡ position q xs → first_held q xs ≡ None
none_named q xs found =
    let n = position_or_len q xs in
    elim (cases_lt n (length xs)) [
      | inl h ↦ let some = cond-true (nat_lt n (length xs)) (Some n) None (lt-ltb n (length xs) h) in absurd (cc)
      | inr h ↦ first_none q xs (λ k less. fails_before_first q xs k 0 (omega arith))
    ]

-- items whose different addresses lie below a number are no more than that
few_below : (f : ℕ → ℕ) (xs : List ℕ) (n : ℕ) → ((i j d e : ℕ) → i < j → j < length xs → f (get_or xs i d) ≡ f (get_or xs j e) → ⊥) → ((k d : ℕ) → k < length xs → f (get_or xs k d) < n) → length xs ≤ n
few_below f xs n differ below =
    let ones = sum_ones xs in
    let each = sum_same (λ x. 1) (λ x. sum_to (λ m. one_if (nat_eq (f x) (0 + m))) n) xs (λ k d less. let under = below k d less in sym (met_in (f (get_or xs k d)) 0 n (omega arith) (omega arith))) in
    let swapped = sums_swapped (λ m x. one_if (nat_eq (f x) (0 + m))) xs n in
    let most = sum_to_ones (λ m. count_by (λ x. nat_eq (f x) (0 + m)) xs) n
    (λ m less. count_one (λ x. nat_eq (f x) (0 + m)) xs
    (λ i j d e order inside one other. differ i j d e order inside (eqb-true (f (get_or xs i d)) (0 + m) one ∙ sym (eqb-true (f (get_or xs j e)) (0 + m) other)))) in
    omega arith

-- The counts without the pointers inside the locals

module _ (locals heap : ℕ) (memory : Memory) (shape : IsMemory locals heap memory) (places : ℕ → ℕ) (objects : List Object) (frees : Frees) (births addrs : List ℕ) (may : MayCheck memory places objects frees births addrs) where
  there_all : All (IsThere objects) births
  there_all k d less = (may.ending.own k d less).there

  abbrev pub words : List ℕ
  words = words_inside memory.forms memory.bytes addrs

  abbrev pub beside : List Pointer
  beside = pointers_beside objects frees births

  words_are : (g : ℕ) → into_granule g words ≡ sum_by (λ b. count_by (leads_into places g) (object_at objects b).pointers) births
  words_are g =
      ap (λ l. into_granule g (words_inside memory.forms memory.bytes l)) may.ending.addresses ∙ words_lead_all memory places objects may.keeps g births there_all

  -- each count is what these pointers give, and those inside the locals
  counts_split : (g : ℕ) → g < length memory.counts.counts → get_or memory.counts.counts g 0 ≡ into_granule g words + count_by (leads_into places g) beside
  counts_split g less =
      let w : Pointer → ℕ = λ p. one_if (leads_into places g p) in
      let count = may.tracks.counts g less ∙ sum_by-append w (living_pointers objects) frees.pins in
      let split = living_ended w objects births there_all may.ending.distinct in
      let inside = words_are g in
      let all = sum_by-append w (living_pointers (ended objects births)) frees.pins in
      omega arith

  covered : (g : ℕ) → into_granule g words ≤ get_or memory.counts.counts g 0
  covered g =
      elim (cases_lt g (length memory.counts.counts)) [
        | inl h ↦ let count = counts_split g h in omega arith
        | inr h ↦
            let inside = words_are g in
            let w : Pointer → ℕ = λ p. one_if (leads_into places g p) in
            let split = living_ended w objects births there_all may.ending.distinct in
            let none = none_past locals heap memory shape places objects may.keeps frees may.tracks g h (living_pointers objects) (living_lead memory places objects may.keeps) in
            omega arith
      ]

  inside_one : (b : ℕ) → IsThere objects b → IsInside memory.bytes (places b)
  inside_one b there =
      let w = whole locals heap memory shape places objects may.keeps b there in
      let old = may.keeps.standing b there in
      let end = own_inside memory places objects may.keeps b there locals heap shape in
      let same : block_size (header_of memory.bytes (places b)).size ≡ block_size (object_at objects b).size = ap block_size old.header.size in
      record {
        start = omega (arith, old.room);
        inside = omega (arith, w.inside);
        reach = omega (arith, shape.reach, old.header.size);
      }

  pub are_covered : AreCoveredAt memory.bytes memory.counts memory.forms addrs
  are_covered = record {
    inside = subst (All (IsInside memory.bytes)) (sym may.ending.addresses) (All-map (IsInside memory.bytes) places births (λ k d less. inside_one (get_or births k d) (there_all k d less)));
    known = subst (All (λ a. (header_of memory.bytes a).layout < length memory.forms)) (sym may.ending.addresses)
        (All-map (λ a. (header_of memory.bytes a).layout < length memory.forms) places births
        (λ k d less. let b = get_or births k d in
        let old = may.keeps.standing b (there_all k d less) in
        slice_get_within memory.forms (header_at memory.bytes (places b - 32)).layout old.slots.0 old.slots.1));
    covered = covered;
  }

  pub few_locals : length addrs < 2 ^ 32
  few_locals =
      let long : length addrs ≡ length births = ap length may.ending.addresses ∙ length-map births places in
      let few = few_below places births (length memory.bytes)
      (λ i j d e order inside same. let b = get_or births i d in
      let c = get_or births j e in
      let at_c : get_or births j d ≡ c = get_or_default births j d e inside in
      let differ : b ≡ c → ⊥ = λ equal. may.ending.distinct i j d order inside (equal ∙ sym at_c) in
      elim (objects_apart locals heap memory shape places objects may.keeps b c (there_all i d (omega arith)) (there_all j e inside) differ) [ inl h ↦ omega arith | inr h ↦ omega arith ])
      (λ k d less. let end = own_inside memory places objects may.keeps (get_or births k d) (there_all k d less) locals heap shape in omega arith) in
      omega (arith, shape.reach)

  pub beside_lead : All (LeadsSomewhere objects) beside
  beside_lead =
      All-append (LeadsSomewhere objects) (living_pointers (ended objects births)) frees.pins
      (all_flat (LeadsSomewhere objects) pointers_in (ended objects births) (λ k d less.
      let o = object_at objects k in
      let here : dead_if (is_ending births k) o ≡ get_or (ended objects births) k d = sym (at_ended objects births k) ∙ get_or_default (ended objects births) k no_object d less in
      subst (λ (x : Object). All (LeadsSomewhere objects) (pointers_in x)) here (left (is_ending births k) o (inside_lead memory places objects may.keeps k)))) may.tracks.pinned where
        left : (t : Bool) (o : Object) → All (LeadsSomewhere objects) (pointers_in o) → All (LeadsSomewhere objects) (pointers_in (dead_if t o))
        left true o all = All-nil (LeadsSomewhere objects)
        left false o all = all

  -- where none is left to a local, all lead to objects that are left
  pub all_stay : first_held (λ b. not (nat_eq (pointers_to b beside) 0)) births ≡ None → All (LeadsSomewhere (ended objects births)) beside
  all_stay free i d less =
      stays (get_or beside i d) (beside_lead i d less)
      (λ b e. let at = from_among births b e in
      let here = none_held (λ b. not (nat_eq (pointers_to b beside) 0)) births free at.0 b at.1 in
      let none : pointers_to b beside ≡ 0 = subst (λ x. pointers_to x beside ≡ 0) at.2 (number_zero (pointers_to (get_or births at.0 b) beside) here) in
      let one = get_or-le-sum_by (λ p. one_if (is_pointer_to b p)) beside i d less in
      elim (cases_Bool (is_pointer_to b (get_or beside i d))) [
        | inr out ↦ out
        | inl points ↦ let own : one_if (is_pointer_to b (get_or beside i d)) ≡ 1 = ap one_if points in absurd (omega arith)
      ]) where
        stays : (p : Pointer) → LeadsSomewhere objects p → ((b : ℕ) → is_ending births b ≡ true → is_pointer_to b p ≡ false) → LeadsSomewhere (ended objects births) p
        stays pointer.Null h apart = tt
        stays (pointer.At b offset) h apart =
            let inside = h.1 in
            let size = ended_size objects births b in
            elim (cases_Bool (is_ending births b)) [
              | inr out ↦ (stays_there objects births b h.0 out, omega arith)
              | inl is_in ↦ let same : nat_eq b b ≡ true = eq-eqb b b refl in let other = apart b is_in in absurd (cc)
            ]

  module _ (after : Table) (lowered : LowersBy words memory.counts after) where
    pub counts_beside : AreCounts places beside after.counts
    counts_beside g less =
        let split = counts_split g (subst (λ n. g < n) lowered.long less) in
        let exact = lowered.exact g in
        omega arith

    -- what is left to a local in the counts of its block
    left_number : (b : ℕ) → IsThere objects b → sum_by (slice_index after.counts) (granules_of memory.bytes (places b)) ≡ pointers_to b beside
    left_number b there =
        let w = whole locals heap memory shape places objects may.keeps b there in
        let first = (places b - 32) / 16 in
        let many = block_size (header_of memory.bytes (places b)).size / 16 in
        sum_ranged (slice_index after.counts) first many
        ∙ sum_to_same (λ k. slice_index after.counts (first + k)) (λ k. count_by (leads_into places (first + k)) beside) many
        (λ k less. counts_beside (first + k) (omega (arith, lowered.long, w.end, w.inside, shape.granules)))
        ∙ sym (sum_ranged (λ g. count_by (leads_into places g) beside) first many)
        ∙ granules_number locals heap memory shape places objects may.keeps b there beside beside_lead

    pub first_is : position (λ addr. not (nat_eq (sum_by (slice_index after.counts) (granules_of memory.bytes addr)) 0)) addrs ≡ position (λ b. not (nat_eq (pointers_to b beside) 0)) births
    first_is =
        let p : ℕ → Bool = λ addr. not (nat_eq (sum_by (slice_index after.counts) (granules_of memory.bytes addr)) 0) in
        let q : ℕ → Bool = λ b. not (nat_eq (pointers_to b beside) 0) in
        ap (position p) may.ending.addresses
        ∙ position_mapped places p q births (λ k d less. ap (λ n. not (nat_eq n 0)) (left_number (get_or births k d) (there_all k d less)))

-- the definition's numbers are those of the pointers that count beside the ones inside the locals, the answer among them
pub end_same : (objects : List Object) (frees : Frees) (births : List ℕ) (p : Pointer) → All (IsThere objects) births → AllPairs (λ a b. a ≢ b) births
    → end_numbers objects births (Some p) (number_of objects frees) ≡ first_held (λ b. not (nat_eq (pointers_to b (pointers_beside objects (record frees { pins = p ∷ frees.pins }) births)) 0)) births
end_same objects frees births p there distinct =
    λ i. first_held (λ b. not (nat_eq (number b i) 0)) births where
      number : (b : ℕ) → number_of objects frees b - pointers_inside b (objects_of objects births) + pointers_to b (p ∷ []) ≡ pointers_to b (pointers_beside objects (record frees { pins = p ∷ frees.pins }) births)
      number b =
          let w : Pointer → ℕ = λ q. one_if (is_pointer_to b q) in
          let all = sum_by-append w (living_pointers objects) frees.pins in
          let split = living_ended w objects births there distinct in
          let inside = sum_mapped (λ (o : Object). sum_by w o.pointers) (object_at objects) births in
          let left = sum_by-append w (living_pointers (ended objects births)) (p ∷ frees.pins) in
          let more = sum_by-cons w p frees.pins in
          let one = sum_by-cons w p [] in
          omega arith
