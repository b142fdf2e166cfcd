-- What a memory keeps and tracks after the blocks of the queued objects were given back.
use Rattle.std.proofs.Common.{◌≡◌, ◌<◌, ◌≤◌, ◌+◌, ◌-◌, ◌/◌, ◌∙◌, ◌⊎◌, inl, inr, ℕ, zero, suc, Bool, true, false, cond, not, Option, Some, None, List, [], ◌∷◌, ◌++◌, length, get_or, refl, sym, ap, subst, arith, length-append}
use Rattle.std.specs.Prelude.{All, Contains, fold, map, filter, nat_eq, slice_index_or, ◌&&◌, ◌||◌}
use Rattle.std.specs.List.{enumerate_from, flat_map, list_any}
use Rattle.std.proofs.lemmas.Bool.{cases_Bool, cond-true, cond-false, eq-eqb, eqb-true, not_from_false}
use Rattle.std.proofs.lemmas.List.{get_or_append_left}
use Rattle.std.proofs.lemmas.List.Elements.{All-nil, All-head, All-tail}
use Rattle.std.proofs.lemmas.List.Sums.{get_or-le-sum_by}
use Rattle.hs_base.specs.declared.values.Pointer.{Pointer}
use Rattle.hs_base.specs.declared.values.Pointer.TheVariants as pointer
use Rattle.byte_memory.specs.Bytes.{part}
use Rattle.hs_base.specs.Freeing.{buried, buried_standing, check_numbers, first_held, is_heap, is_pointer_to, objects_of, pointers_inside, pointers_to}
use Rattle.hs_base.specs.Object as object
use Rattle.hs_base.specs.Object.{Object, Sort, Standing, is_dead, is_queued, no_object, object_at}
use Rattle.hs_base.specs.Place.{Block, block_size, blocks_after, without_block}
use Rattle.hs_base.specs.Trace.{Gone}
use Rattle.count_table.specs.Table.{Table}
use Rattle.heap_blocks.specs.declared.headers.Header.{Header}
use Rattle.heap_blocks.specs.Heads.{header_at}
use Rattle.heap_blocks.specs.Held.{HeapModel, Holds}
use Rattle.delay_scopes.specs.Check.{IsReleased, births_of, no_scopes}
use Rattle.delay_scopes.specs.Pointers.{LowersBy}
use Rattle.delay_scopes.specs.Queue.{HasQueue, IsQueued, header_of}
use Rattle.flat_objects.specs.Memory.{Memory, Range, Statics, Locals, Heap, IsMemory, end_of, heap_of, is_of, range_of}
use Rattle.flat_objects.specs.Standing.{IsThere, IsAddressOf}
use Rattle.flat_objects.specs.Keeping.{Keeps, StandsAt, IsHeaderOf, IsStateOf, block_of, blocks_of, stands_in}
use Rattle.flat_objects.specs.Counting.{AreQueued, Frees, LeadsSomewhere, Tracks, living_pointers, pointers_in}
use Rattle.flat_objects.specs.Freeing.{AreBuried, number_of}
use Rattle.flat_objects.proofs.Again.{SameWithin, header_from, stands_again}
use Rattle.flat_objects.proofs.Blocks.{block_is_held, own_block, there_below}
use Rattle.flat_objects.proofs.Counted.{pointers_there}
use Rattle.flat_objects.proofs.HeldBlocks.{all_blocks}
use Rattle.flat_objects.proofs.Numbers.{at_buried, bury, count_split, numbers_left, others, others_lead, words}
use Rattle.flat_objects.proofs.Owners.{own_inside, own_lies}
use Rattle.flat_objects.proofs.Queueing.{range_heap}
use Rattle.flat_objects.proofs.Reached.{are_slots}
use Rattle.flat_objects.proofs.Tallies.{one_if}
use Rattle.flat_objects.proofs.Tracked.{queue_there}

-- Lists that are filtered

filter_same : {X : Type 0} (p q : X → Bool) (xs : List X) → ((x : X) → p x ≡ q x) → filter p xs ≡ filter q xs
filter_same p q [] same = refl
filter_same p q (x ∷ xs) same =
    let rest = filter_same p q xs same in
    let here = same x in
    λ i. cond (here i) (x ∷ rest i) (rest i)

pub filter_all : {X : Type 0} (p : X → Bool) (xs : List X) → All (λ x. p x ≡ true) xs → filter p xs ≡ xs
filter_all p [] all = refl
filter_all p (x ∷ xs) all =
    cond-true (p x) (x ∷ filter p xs) (filter p xs) (All-head (λ x. p x ≡ true) x xs all) ∙ ap (λ l. x ∷ l) (filter_all p xs (All-tail (λ x. p x ≡ true) x xs all))

filter_twice : {X : Type 0} (p q : X → Bool) (xs : List X) → filter p (filter q xs) ≡ filter (λ x. q x && p x) xs
filter_twice p q [] = refl
filter_twice p q (x ∷ xs) = one (q x) (filter_twice p q xs) where
  one : (t : Bool) → filter p (filter q xs) ≡ filter (λ x. q x && p x) xs → filter p (cond t (x ∷ filter q xs) (filter q xs)) ≡ cond (t && p x) (x ∷ filter (λ x. q x && p x) xs) (filter (λ x. q x && p x) xs)
  one true rest = ap (λ l. cond (p x) (x ∷ l) l) rest
  one false rest = rest

-- is the birth one of these?
abbrev pub among : List ℕ → ℕ → Bool
among queue birth = list_any (λ q. nat_eq birth q) queue

not_or : (s t : Bool) → (not s && not t) ≡ not (s || t)
not_or true t = refl
not_or false t = refl

-- blocks without those of some births
fold_without : (queue : List ℕ) (held : List Block) → fold without_block held queue ≡ filter (λ (b : Block). not (among queue b.birth)) held
fold_without [] held = sym (filter_all (λ (b : Block). not (among [] b.birth)) held (λ k d less. refl))
fold_without (q ∷ queue) held =
    fold_without queue (without_block held q)
    ∙ filter_twice (λ (b : Block). not (among queue b.birth)) (λ (b : Block). not (nat_eq b.birth q)) held
    ∙ filter_same (λ (b : Block). not (nat_eq b.birth q) && not (among queue b.birth)) (λ (b : Block). not (among (q ∷ queue) b.birth)) held (λ b. not_or (nat_eq b.birth q) (among queue b.birth))

pub gone_blocks : (len : ℕ) (held : List Block) (queue : List ℕ) → blocks_after len held (map Gone queue) ≡ fold without_block held queue
gone_blocks len held [] = refl
gone_blocks len held (q ∷ queue) = gone_blocks len (without_block held q) queue

later_in : (q : ℕ) (queue : List ℕ) (b : ℕ) → nat_eq b q ≡ false → Contains (q ∷ queue) b → Contains queue b
later_in q queue b differ (zero, less, is) = absurd (clash (sym differ ∙ eq-eqb b q (sym is))) where
  clash : false ≡ true → ⊥
  clash e = cc
later_in q queue b differ (suc i, less, is) = (i, omega arith, is)

pub among_from : (queue : List ℕ) (b : ℕ) → Contains queue b → among queue b ≡ true
among_from [] b at = absurd (omega (arith, at.1))
among_from (q ∷ queue) b at =
    elim (cases_Bool (nat_eq b q)) [
      | inl e ↦ ap (λ t. t || among queue b) e
      | inr differ ↦ ap (λ t. t || among queue b) differ ∙ among_from queue b (later_in q queue b differ at)
    ]

pub from_among : (queue : List ℕ) (b : ℕ) → among queue b ≡ true → Contains queue b
from_among [] b e = absurd (cc)
from_among (q ∷ queue) b e =
    elim (cases_Bool (nat_eq b q)) [
      | inl same ↦ (0, omega arith, sym (eqb-true b q same))
      | inr differ ↦
          let rest = from_among queue b (ap (λ t. t || among queue b) (sym differ) ∙ e) in
          (suc rest.0, omega (arith, rest.1), rest.2)
    ]

-- the blocks of the objects that are left
module _ {X : Type 0} (f : X → Block) (t : ℕ → Bool) (x y : X) (l m : List X) (same : f y ≡ f x) (rest : map f l ≡ filter (λ (b : Block). not (t b.birth)) (map f m)) where
  both_kept : (u s : Bool) → t (f x).birth ≡ false → map f (cond (u && s) (y ∷ l) l) ≡ filter (λ (b : Block). not (t b.birth)) (map f (cond (u && s) (x ∷ m) m))
  both_kept true true out =
      (λ i. same i ∷ rest i) ∙ sym (cond-true (not (t (f x).birth)) (f x ∷ filter (λ (b : Block). not (t b.birth)) (map f m)) (filter (λ (b : Block). not (t b.birth)) (map f m)) (not_from_false (t (f x).birth) out))
  both_kept true false out = rest
  both_kept false true out = rest
  both_kept false false out = rest

  one_dropped : (u : Bool) → t (f x).birth ≡ true → map f (cond (u && false) (y ∷ l) l) ≡ filter (λ (b : Block). not (t b.birth)) (map f (cond (u && true) (x ∷ m) m))
  one_dropped true waits = rest ∙ sym (cond-false (not (t (f x).birth)) (f x ∷ filter (λ (b : Block). not (t b.birth)) (map f m)) (filter (λ (b : Block). not (t b.birth)) (map f m)) (ap not waits))
  one_dropped false waits = rest

  one_left : (u : Bool) (s : Standing) → t (f x).birth ≡ is_queued s → map f (cond (u && not (is_dead (buried_standing s))) (y ∷ l) l) ≡ filter (λ (b : Block). not (t b.birth)) (map f (cond (u && not (is_dead s)) (x ∷ m) m))
  one_left u object.Live e = both_kept u true e
  one_left u (object.Queued line) e = one_dropped u e
  one_left u object.Dead e = both_kept u false e

blocks_left_from : (places : ℕ → ℕ) (base : ℕ) (range : Range) (t : ℕ → Bool) (n : ℕ) (objects : List Object) → ((k : ℕ) → k < length objects → t (n + k) ≡ is_queued (object_at objects k).standing)
    → map (block_of places base) (filter (stands_in range) (enumerate_from n (map bury objects))) ≡ filter (λ (b : Block). not (t b.birth)) (map (block_of places base) (filter (stands_in range) (enumerate_from n objects)))
blocks_left_from places base range t n [] test = refl
blocks_left_from places base range t n (o ∷ objects) test =
    let here : t n ≡ is_queued o.standing = (let e : n ≡ n + 0 = omega arith in ap t e) ∙ test 0 (omega arith) in
    let rest = blocks_left_from places base range t (n + 1) objects (λ k less. let e : n + 1 + k ≡ n + suc k = omega arith in ap t e ∙ test (suc k) (omega arith)) in
    one_left (block_of places base) t (n, o) (n, bury o) (filter (stands_in range) (enumerate_from (n + 1) (map bury objects))) (filter (stands_in range) (enumerate_from (n + 1) objects)) refl rest (is_of range o.sort) o.standing here

pub blocks_left : (memory : Memory) (places : ℕ → ℕ) (objects : List Object) (queue : List ℕ) (range : Range) → AreQueued objects queue → blocks_of memory places (buried objects) range ≡ filter (λ (b : Block). not (among queue b.birth)) (blocks_of memory places objects range)
blocks_left memory places objects queue range are =
    blocks_left_from places (heap_of memory range).base range (among queue) 0 objects
    (λ k less. let e : 0 + k ≡ k = omega arith in ap (among queue) e ∙ decided k (cases_Bool (is_queued (object_at objects k).standing)) (cases_Bool (among queue k))) where
      decided : (k : ℕ) → (is_queued (object_at objects k).standing ≡ true) ⊎ (is_queued (object_at objects k).standing ≡ false) → (among queue k ≡ true) ⊎ (among queue k ≡ false) → among queue k ≡ is_queued (object_at objects k).standing
      decided k (inl waits) other = among_from queue k ((are.exact k).1 waits) ∙ sym waits
      decided k (inr not_waiting) (inr out) = out ∙ sym not_waiting
      decided k (inr not_waiting) (inl is_in) = absurd (clash (sym not_waiting ∙ (are.exact k).0 (from_among queue k is_in))) where
        clash : false ≡ true → ⊥
        clash e = cc

-- What holds of the elements of lists of lists

pub all_left_of : {X : Type 0} (P : X → Type 0) (xs ys : List X) → All P (xs ++ ys) → All P xs
all_left_of P xs ys all = λ i d less. subst P (get_or_append_left xs ys d i less) (all i d (omega (arith, length-append xs ys)))

pub all_right_of : {X : Type 0} (P : X → Type 0) (xs ys : List X) → All P (xs ++ ys) → All P ys
all_right_of P [] ys all = all
all_right_of P (x ∷ xs) ys all = all_right_of P xs ys (All-tail P x (xs ++ ys) all)

pub all_of_flat : {X Y : Type 0} (P : Y → Type 0) (f : X → List Y) (xs : List X) (k : ℕ) (d : X) → k < length xs → All P (flat_map f xs) → All P (f (get_or xs k d))
all_of_flat P f [] k d less all = absurd (omega arith)
all_of_flat P f (x ∷ xs) zero d less all = all_left_of P (f x) (flat_map f xs) all
all_of_flat P f (x ∷ xs) (suc k) d less all = all_of_flat P f xs k d (omega arith) (all_right_of P (f x) (flat_map f xs) all)

-- What is left

links_none : (named : Option ℕ) (base : ℕ) (bytes : List ℕ) (held : List Block) → HasQueue (no_scopes named) base bytes held []
links_none named base bytes held = record {
  many = refl;
  first = refl;
  last = refl;
  queued = All-nil (IsQueued base bytes held);
  distinct = λ i j d less inside. absurd (omega arith);
  linked = λ k less. absurd (omega arith);
}

pub none_held : (p : ℕ → Bool) (queue : List ℕ) → first_held p queue ≡ None → (k d : ℕ) → k < length queue → p (get_or queue k d) ≡ false
none_held p [] none k d less = absurd (omega arith)
none_held p (b ∷ queue) none k d less =
    elim (cases_Bool (p b)) [
      | inl yes_held ↦ let some = cond-true (p b) (Some b) (first_held p queue) yes_held in absurd (cc)
      | inr free ↦ let rest = sym (cond-false (p b) (Some b) (first_held p queue) free) ∙ none in at k d less free (none_held p queue rest)
    ] where
      at : (k d : ℕ) → k < suc (length queue) → p b ≡ false → ((j e : ℕ) → j < length queue → p (get_or queue j e) ≡ false) → p (get_or (b ∷ queue) k d) ≡ false
      at zero d less free rest = free
      at (suc j) d less free rest = rest j d (omega arith)

not_queued_live : (s : Standing) → is_dead s ≡ false → is_queued s ≡ false → s ≡ object.Live
not_queued_live object.Live there free = refl
not_queued_live (object.Queued line) there free = absurd (cc)
not_queued_live object.Dead there free = absurd (cc)

left_there : (s : Standing) → is_dead (buried_standing s) ≡ false → s ≡ object.Live
left_there object.Live there = refl
left_there (object.Queued line) there = absurd (cc)
left_there object.Dead there = absurd (cc)

none_waits : (s : Standing) → is_queued (buried_standing s) ≡ true → ⊥
none_waits object.Live e = cc
none_waits (object.Queued line) e = cc
none_waits object.Dead e = cc

pub number_zero : (n : ℕ) → not (nat_eq n 0) ≡ false → n ≡ 0
number_zero n e =
    elim (cases_Bool (nat_eq n 0)) [
      | inl same ↦ eqb-true n 0 same
      | inr other ↦ absurd (clash (sym e ∙ ap not other))
    ] where
      clash : false ≡ true → ⊥
      clash same = cc

module _ (locals heap : ℕ) (memory : Memory) (shape : IsMemory locals heap memory) (places : ℕ → ℕ) (objects : List Object) (keeps : Keeps memory places objects) (frees : Frees) (tracks : Tracks memory places objects frees) where
  births_as : births_of memory.bytes (map places frees.queue) ≡ frees.queue
  births_as = go frees.queue (queue_there objects frees.queue tracks.queued) where
    go : (queue : List ℕ) → ((k d : ℕ) → k < length queue → IsThere objects (get_or queue k d)) → births_of memory.bytes (map places queue) ≡ queue
    go [] there = refl
    go (b ∷ queue) there =
        let born : (header_of memory.bytes (places b)).birth ≡ b = (keeps.standing b (there 0 b (omega arith))).header.born in
        let rest = go queue (λ k d less. there (suc k) d (omega arith)) in
        λ i. born i ∷ rest i

  -- the pointers that are left lead to objects that are left
  module _ (free : check_numbers objects frees.queue (number_of objects frees) ≡ None) where
    not_to_queued : (b : ℕ) → Contains frees.queue b → pointers_to b (others locals heap memory shape places objects keeps frees tracks) ≡ 0
    not_to_queued b at =
        let k = at.0 in
        let here = none_held (λ b. not (nat_eq (number_of objects frees b - pointers_inside b (objects_of objects frees.queue)) 0)) frees.queue free k b at.1 in
        let zero_is = number_zero (number_of objects frees (get_or frees.queue k b) - pointers_inside (get_or frees.queue k b) (objects_of objects frees.queue)) here in
        sym (numbers_left locals heap memory shape places objects keeps frees tracks b)
        ∙ subst (λ x. number_of objects frees x - pointers_inside x (objects_of objects frees.queue) ≡ 0) at.2 zero_is

    left_leads : (p : Pointer) → LeadsSomewhere objects p → ((b : ℕ) → Contains frees.queue b → is_pointer_to b p ≡ false) → LeadsSomewhere (buried objects) p
    left_leads pointer.Null h apart = tt
    left_leads (pointer.At b offset) h apart =
        let here = at_buried objects b in
        let inside = h.1 in
        let waits_not : is_queued (object_at objects b).standing ≡ false =
        elim (cases_Bool (is_queued (object_at objects b).standing)) [
          | inr no_wait ↦ no_wait
          | inl waits ↦ let same : nat_eq b b ≡ true = eq-eqb b b refl in let other = apart b ((tracks.queued.exact b).1 waits) in absurd (cc)
        ] in
        let live = not_queued_live (object_at objects b).standing h.0 waits_not in
        (ap (λ (o : Object). is_dead o.standing) here ∙ ap (λ s. is_dead (buried_standing s)) live, omega (arith, ap (λ (o : Object). o.size) here))

    pub all_left : All (LeadsSomewhere (buried objects)) (others locals heap memory shape places objects keeps frees tracks)
    all_left i d less =
        let ps = others locals heap memory shape places objects keeps frees tracks in
        left_leads (get_or ps i d) (others_lead locals heap memory shape places objects keeps frees tracks i d less)
        (λ b at. let none = not_to_queued b at in
        let one = get_or-le-sum_by (λ p. one_if (is_pointer_to b p)) ps i d less in
        elim (cases_Bool (is_pointer_to b (get_or ps i d))) [
          | inr out ↦ out
          | inl points ↦ let own : one_if (is_pointer_to b (get_or ps i d)) ≡ 1 = ap one_if points in absurd (omega arith)
        ])

  -- what is released, and what was not changed
  module _ (free : check_numbers objects frees.queue (number_of objects frees) ≡ None) (after : HeapModel) (bytes : List ℕ) (counts : Table) (named : Option ℕ)
      (released : IsReleased memory.heap after memory.bytes bytes (blocks_of memory places objects Heap) (map places frees.queue))
      (lowered : LowersBy (words locals heap memory shape places objects keeps frees tracks) memory.counts counts)
      (left_stays : (b : Block) (from k : ℕ) → Contains (fold without_block (blocks_of memory places objects Heap) (births_of memory.bytes (map places frees.queue))) b → memory.heap.base + b.place ≤ from → from + k ≤ memory.heap.base + b.place + b.length → part bytes from k ≡ part memory.bytes from k)
      (beside_stays : (from k : ℕ) → (from + k ≤ memory.heap.base) ⊎ (memory.heap.base + memory.heap.len ≤ from) → part bytes from k ≡ part memory.bytes from k) where
    abbrev next : Memory
    next = record memory { heap = after; bytes = bytes; counts = counts; scopes = no_scopes named }

    same_base : (range : Range) → (heap_of next range).base ≡ (heap_of memory range).base
    same_base Statics = refl
    same_base Locals = refl
    same_base Heap = released.bounds.0

    heap_left : fold without_block (blocks_of memory places objects Heap) (births_of memory.bytes (map places frees.queue)) ≡ blocks_of memory places (buried objects) Heap
    heap_left =
        ap (fold without_block (blocks_of memory places objects Heap)) births_as ∙ fold_without frees.queue (blocks_of memory places objects Heap) ∙ sym (blocks_left memory places objects frees.queue Heap tracks.queued)

    blocks_in_next : (range : Range) → blocks_of next places (buried objects) range ≡ blocks_of memory places (buried objects) range
    blocks_in_next range = ap (λ b. map (block_of places b) (filter (stands_in range) (enumerate_from 0 (buried objects)))) (same_base range)

    -- no object beside the heap is queued
    beside_left : (range : Range) → (range ≡ Heap → ⊥) → blocks_of memory places (buried objects) range ≡ blocks_of memory places objects range
    beside_left range other =
        blocks_left memory places objects frees.queue range tracks.queued
        ∙ filter_all (λ (b : Block). not (among frees.queue b.birth)) (blocks_of memory places objects range)
        (all_blocks (λ (b : Block). not (among frees.queue b.birth) ≡ true) memory places objects range
        (λ b there own. elim (cases_Bool (among frees.queue b)) [
          | inr out ↦ ap not out
          | inl is_in ↦
              let at = from_among frees.queue b is_in in
              let of_heap : is_heap (object_at objects b).sort ≡ true = subst (λ x. is_heap (object_at objects x).sort ≡ true) at.2 (tracks.queued.heap at.0 b at.1) in
              absurd (other (sym own ∙ range_heap (object_at objects b).sort of_heap))
        ]))

    -- an object that is left was live
    live_before : (b : ℕ) → IsThere (buried objects) b → (object_at objects b).standing ≡ object.Live
    live_before b there = left_there (object_at objects b).standing (ap (λ (o : Object). is_dead o.standing) (sym (at_buried objects b)) ∙ there)

    there_before : (b : ℕ) → IsThere (buried objects) b → IsThere objects b
    there_before b there = ap (λ s. is_dead s) (live_before b there)

    -- its header and its bytes are the same
    whole_same : (b : ℕ) → IsThere (buried objects) b → (r : Range) → range_of (object_at objects b).sort ≡ r → SameWithin bytes memory.bytes (places b - 32) ((object_at objects b).size + 32)
    whole_same b there Heap own from n low high =
        let old = keeps.standing b (there_before b there) in
        let room = subst (λ r. (heap_of memory r).base + 32 ≤ places b) own old.room in
        let base : (heap_of memory (range_of (object_at objects b).sort)).base ≡ memory.heap.base = ap (λ r. (heap_of memory r).base) own in
        let same_object : object_at (buried objects) b ≡ bury (object_at objects b) = at_buried objects b in
        let sort : (object_at (buried objects) b).sort ≡ (object_at objects b).sort = ap (λ (o : Object). o.sort) same_object in
        let held = subst (λ (r : Range). Contains (blocks_of memory places (buried objects) r) (own_block memory places (buried objects) b)) (ap range_of sort ∙ own) (block_is_held memory places (buried objects) b there) in
        let own_base : (heap_of memory (range_of (object_at (buried objects) b).sort)).base ≡ memory.heap.base = ap (λ s. (heap_of memory (range_of s)).base) sort ∙ base in
        let long : block_size (object_at (buried objects) b).size ≡ block_size (object_at objects b).size = ap (λ (o : Object). block_size o.size) same_object in
        left_stays (own_block memory places (buried objects) b) from n (subst (λ (l : List Block). Contains l (own_block memory places (buried objects) b)) (sym heap_left) held) (omega arith) (omega arith)
    whole_same b there Statics own from n low high =
        let old = keeps.standing b (there_before b there) in
        let lies = own_lies memory places objects keeps b (there_before b there) in
        let end : end_of (heap_of memory (range_of (object_at objects b).sort)) ≡ end_of memory.statics = ap (λ r. end_of (heap_of memory r)) own in
        beside_stays from n (inl (omega (arith, lies.below, shape.statics_end, shape.locals_end, shape.locals_from, shape.heap_from)))
    whole_same b there Locals own from n low high =
        let old = keeps.standing b (there_before b there) in
        let lies = own_lies memory places objects keeps b (there_before b there) in
        let end : end_of (heap_of memory (range_of (object_at objects b).sort)) ≡ end_of memory.locals = ap (λ r. end_of (heap_of memory r)) own in
        beside_stays from n (inl (omega (arith, lies.below, shape.locals_end, shape.heap_from)))

    pub stand_left : (p : Pointer) (a : ℕ) → IsAddressOf places objects p a → LeadsSomewhere (buried objects) p → IsAddressOf places (buried objects) p a
    stand_left pointer.Null a is leads = is
    stand_left (pointer.At b offset) a is leads = record { there = leads.0; inside = leads.1; address = is.address }

    -- the pointers inside an object that is left
    own_leads : (b k : ℕ) → IsThere (buried objects) b → k < length (object_at objects b).slots → LeadsSomewhere (buried objects) (slice_index_or (object_at objects b).pointers k pointer.Null)
    own_leads b k there less =
        let o = object_at objects b in
        let old = keeps.standing b (there_before b there) in
        let below : b < length (buried objects) = there_below (buried objects) b there in
        let inside : pointers_in (object_at (buried objects) b) ≡ o.pointers = pointers_there (object_at (buried objects) b) there ∙ ap (λ (x : Object). x.pointers) (at_buried objects b) in
        let all = all_of_flat (LeadsSomewhere (buried objects)) pointers_in (buried objects) b no_object below (all_left_of (LeadsSomewhere (buried objects)) (living_pointers (buried objects)) frees.pins (all_left free)) in
        subst (All (LeadsSomewhere (buried objects))) inside all k pointer.Null (omega (arith, old.many))

    left_stands : (b : ℕ) → IsThere (buried objects) b → StandsAt next places (buried objects) b (places b) (object_at (buried objects) b)
    left_stands b there =
        let o = object_at objects b in
        let was = there_before b there in
        let old = keeps.standing b was in
        let room = old.room in
        let same = whole_same b there (range_of o.sort) refl in
        let inside = own_inside memory places objects keeps b was locals heap shape in
        let header = header_from memory.bytes bytes (places b - 32) (λ from n low high. same from n low (omega arith)) in
        let live = live_before b there in
        let standing : buried_standing o.standing ≡ o.standing = ap buried_standing live ∙ sym live in
        subst (StandsAt next places (buried objects) b (places b)) (sym (at_buried objects b))
        (stands_again memory next places objects (buried objects) b o (buried_standing o.standing) old (same_base (range_of o.sort)) refl refl released.changes.long
        (subst (λ (h : Header). IsHeaderOf h b (bury o)) (sym header) (record { born = old.header.born; size = old.header.size; line = old.header.line; state = subst (λ s. IsStateOf s (header_at memory.bytes (places b - 32))) (sym standing) old.header.state }))
        (ap (λ (h : Header). h.layout) header) (omega arith) (λ from n low high. same from n (omega arith) (omega arith)) (are_slots locals heap memory _ o shape old.slots)
        (λ k a less is. stand_left (slice_index_or o.pointers k pointer.Null) a is (own_leads b k there less)))

    held_left : (range : Range) → Holds (heap_of next range) (blocks_of next places (buried objects) range)
    held_left Heap = subst (Holds after) (sym (blocks_in_next Heap ∙ sym heap_left)) released.holds
    held_left Statics = subst (Holds memory.statics) (sym (blocks_in_next Statics ∙ beside_left Statics (λ e. cc))) (keeps.held Statics)
    held_left Locals = subst (Holds memory.locals) (sym (blocks_in_next Locals ∙ beside_left Locals (λ e. cc))) (keeps.held Locals)

    pub all_buried : AreBuried memory next places objects frees
    all_buried = record {
      keeps = record { held = held_left; standing = left_stands };
      tracks = record {
        counts = λ g less.
            let split = count_split locals heap memory shape places objects keeps frees tracks g (subst (λ n. g < n) lowered.long less) in
            let exact = lowered.exact g in
            omega arith;
        pinned = all_right_of (LeadsSomewhere (buried objects)) (living_pointers (buried objects)) frees.pins (all_left free);
        few = subst (λ m. length frees.pins ≤ m - length bytes / 4) (sym lowered.most) (subst (λ n. length frees.pins ≤ memory.counts.most - n / 4) (sym released.changes.long) tracks.few);
        queued = record {
          heap = All-nil (λ b. is_heap (object_at (buried objects) b).sort ≡ true);
          exact = λ b. (λ at. absurd (omega (arith, at.1)), λ waits. absurd (none_waits (object_at objects b).standing (ap (λ (o : Object). is_queued o.standing) (sym (at_buried objects b)) ∙ waits)));
          distinct = λ i j d less inside. absurd (omega arith);
        };
        links = links_none named after.base bytes (blocks_of next places (buried objects) Heap);
        open_scopes = refl;
      };
      heap = blocks_in_next Heap ∙ blocks_left memory places objects frees.queue Heap tracks.queued ∙ sym (fold_without frees.queue (blocks_of memory places objects Heap)) ∙ sym (gone_blocks memory.heap.len (blocks_of memory places objects Heap) frees.queue);
      statics = blocks_in_next Statics ∙ beside_left Statics (λ e. cc);
      locals = blocks_in_next Locals ∙ beside_left Locals (λ e. cc);
      stand = stand_left;
    }
