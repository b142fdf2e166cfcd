-- The check by counts of granules is the check by numbers of objects.
use Rattle.std.proofs.Common.{◌≡◌, ◌<◌, ◌≤◌, ◌+◌, ◌-◌, ◌*◌, ◌/◌, ◌%◌, ◌∙◌, ◌⊎◌, inl, inr, ℕ, zero, suc, Bool, true, false, cond, not, Some, List, [], ◌∷◌, ◌++◌, length, get_or, refl, sym, ap, subst, arith}
use Rattle.std.specs.Prelude.{All, map, nat_eq, option_map, slice_index, slice_index_or}
use Rattle.std.specs.List.{sum_by, count_by}
use Rattle.std.proofs.lemmas.Bool.{cases_eq, cases_lt, eq-eqb, ne_eqb}
use Rattle.std.proofs.lemmas.List.{get_or_default}
use Rattle.std.proofs.lemmas.List.Elements.{All-append, All-map, All-nil}
use Rattle.std.proofs.lemmas.List.Sums.{sum_by-append, sum_by-cons}
use Rattle.std.proofs.lemmas.Option.{get_or_from_slice_get, slice_get_within}
use Rattle.hs_base.specs.declared.values.Pointer.{Pointer}
use Rattle.hs_base.specs.declared.values.Pointer.TheVariants as pointer
use Rattle.byte_memory.specs.Bytes.{word}
use Rattle.hs_base.specs.Freeing.{buried, buried_standing, check_numbers, first_held, is_pointer_to, objects_of, pointers_inside, pointers_to}
use Rattle.hs_base.specs.Object as object
use Rattle.hs_base.specs.Object.{Object, Standing, is_dead, is_queued, no_object, object_at}
use Rattle.hs_base.specs.Place.{block_size}
use Rattle.adjusters.specs.ObjectSlots.{object_slots}
use Rattle.heap_blocks.specs.Heads.{header_at}
use Rattle.delay_scopes.specs.Check.{IsReady, checked, granules_of, left_to}
use Rattle.delay_scopes.specs.Pointers.{form_at, into_granule, slots_of, words_in, words_inside}
use Rattle.delay_scopes.specs.Queue.{header_of}
use Rattle.flat_objects.specs.Memory.{Memory, Heap, IsMemory, heap_of, range_of}
use Rattle.flat_objects.specs.Standing.{IsThere}
use Rattle.flat_objects.specs.Keeping.{Keeps, blocks_of}
use Rattle.flat_objects.specs.Counting.{AreQueued, Frees, LeadsSomewhere, Tracks, leads_into, living_pointers, pointers_in}
use Rattle.flat_objects.specs.Freeing.{number_of}
use Rattle.flat_objects.proofs.Apart.{objects_apart}
use Rattle.flat_objects.proofs.Blocks.{there_below}
use Rattle.flat_objects.proofs.Counted.{lands, lands_as}
use Rattle.flat_objects.proofs.HeldBlocks.{has_headers, own_births}
use Rattle.flat_objects.proofs.Owners.{own_inside, own_is_block, range_inside}
use Rattle.flat_objects.proofs.Placed.{all_flat, inside_lead, living_lead}
use Rattle.flat_objects.specs.SumEquations.{sum_flat, sum_mapped, sum_same}
use Rattle.flat_objects.proofs.Tallies.{met_in, met_out, met_value, one_if, picked, sum_placed, sum_ranged, sum_to, sum_to_none, sum_to_same, sum_zipped, sums_swapped}
use Rattle.flat_objects.proofs.Tracked.{queue_there}

-- The pointers inside queued objects, and those inside the others

-- the sum over the births of a queue is that over the objects that are queued
pub sum_queued : (f : Object → ℕ) (objects : List Object) (queue : List ℕ) → AreQueued objects queue → sum_by (λ b. f (object_at objects b)) queue ≡ sum_by (λ (o : Object). cond (is_queued o.standing) (f o) 0) objects
sum_queued f objects queue are =
    let n = length objects in
    let placed = sum_placed (λ (o : Object). cond (is_queued o.standing) (f o) 0) objects no_object in
    let each = sum_to_same (λ k. cond (is_queued (object_at objects k).standing) (f (object_at objects k)) 0) (λ k. sum_by (λ b. cond (nat_eq b k) (f (object_at objects k)) 0) queue) n
    (λ k less. sym (picked queue k (f (object_at objects k)) (is_queued (object_at objects k).standing) are.distinct (are.exact k))) in
    let swapped = sums_swapped (λ k b. cond (nat_eq b k) (f (object_at objects k)) 0) queue n in
    let own = sum_same (λ b. sum_to (λ k. cond (nat_eq b k) (f (object_at objects k)) 0) n) (λ b. f (object_at objects b)) queue
    (λ k d less. met_value (λ k. f (object_at objects k)) (get_or queue k d) n (there_below objects (get_or queue k d) (queue_there objects queue are k d less))) in
    omega arith

abbrev pub bury : Object → Object
bury o = record o { standing = buried_standing o.standing }

-- what the pointers inside one object weigh, where it is queued and where it stays
one_split : (w : Pointer → ℕ) (o : Object) → sum_by w (pointers_in o) ≡ cond (is_queued o.standing) (sum_by w o.pointers) 0 + sum_by w (pointers_in (bury o))
one_split w o = go o.standing where
  go : (s : Standing) → sum_by w (cond (is_dead s) [] o.pointers) ≡ cond (is_queued s) (sum_by w o.pointers) 0 + sum_by w (cond (is_dead (buried_standing s)) [] o.pointers)
  go object.Live = omega arith
  go (object.Queued line) = omega arith
  go object.Dead = refl

-- the pointers inside all objects are those inside the queued ones and those inside the ones that are left
pub living_split : (w : Pointer → ℕ) (objects : List Object) (queue : List ℕ) → AreQueued objects queue → sum_by w (living_pointers objects) ≡ sum_by (λ b. sum_by w (object_at objects b).pointers) queue + sum_by w (living_pointers (buried objects))
living_split w objects queue are =
    let all = sum_flat w pointers_in objects in
    let left = sum_flat w pointers_in (map bury objects) ∙ sum_mapped (λ o. sum_by w (pointers_in o)) bury objects in
    let queued = sum_queued (λ o. sum_by w o.pointers) objects queue are in
    let split = both (λ (o : Object). cond (is_queued o.standing) (sum_by w o.pointers) 0) (λ o. sum_by w (pointers_in (bury o))) objects in
    let same = sum_same (λ o. sum_by w (pointers_in o)) (λ (o : Object). cond (is_queued o.standing) (sum_by w o.pointers) 0 + sum_by w (pointers_in (bury o))) objects (λ k d less. one_split w (get_or objects k d)) in
    omega arith where
      both : (f g : Object → ℕ) (xs : List Object) → sum_by (λ x. f x + g x) xs ≡ sum_by f xs + sum_by g xs
      both f g [] = refl
      both f g (x ∷ xs) =
          let one = sum_by-cons (λ x. f x + g x) x xs in
          let two = sum_by-cons f x xs in
          let three = sum_by-cons g x xs in
          let rest = both f g xs in
          omega arith

-- The words in slots

module _ (memory : Memory) (places : ℕ → ℕ) (objects : List Object) (keeps : Keeps memory places objects) where
  pub slots_as : (b : ℕ) → IsThere objects b → slots_of memory.forms memory.bytes (places b) ≡ (object_at objects b).slots
  slots_as b there =
      let old = keeps.standing b there in
      let form = old.slots.0 in
      let header = header_at memory.bytes (places b - 32) in
      let same : form_at memory.forms header.layout ≡ form = get_or_from_slice_get memory.forms header.layout form (record { size = 0; slots = [] }) old.slots.1 in
      (λ i. object_slots (same i) (old.header.size i)) ∙ sym old.slots.2

  -- how many of the words in an object's slots lead into a granule
  pub words_lead : (g b : ℕ) → IsThere objects b → into_granule g (words_in memory.forms memory.bytes (places b)) ≡ count_by (leads_into places g) (object_at objects b).pointers
  words_lead g b there =
      let o = object_at objects b in
      let old = keeps.standing b there in
      let word_of = λ (slot : ℕ). word memory.bytes (places b + slot) 4 in
      ap (λ (slots : List ℕ). into_granule g (map word_of slots)) (slots_as b there)
      ∙ sum_mapped (λ w. one_if (lands g w)) word_of o.slots
      ∙ sum_zipped (λ slot. one_if (lands g (word_of slot))) (λ p. one_if (leads_into places g p)) o.slots o.pointers 0 pointer.Null (sym old.many)
      (λ k less. ap one_if (sym (lands_as memory places objects keeps (slice_index_or o.pointers k pointer.Null) (word_of (slice_index o.slots k)) g (old.pointers k less))))

  pub words_lead_all : (g : ℕ) (queue : List ℕ) → ((k d : ℕ) → k < length queue → IsThere objects (get_or queue k d)) → into_granule g (words_inside memory.forms memory.bytes (map places queue)) ≡ sum_by (λ b. count_by (leads_into places g) (object_at objects b).pointers) queue
  words_lead_all g queue there =
      sum_flat (λ w. one_if (lands g w)) (words_in memory.forms memory.bytes) (map places queue)
      ∙ sum_mapped (λ a. into_granule g (words_in memory.forms memory.bytes a)) places queue
      ∙ sum_same (λ b. into_granule g (words_in memory.forms memory.bytes (places b))) (λ b. count_by (leads_into places g) (object_at objects b).pointers) queue
      (λ k d less. words_lead g (get_or queue k d) (there k d less))

-- The granules of a block

module _ (locals heap : ℕ) (memory : Memory) (shape : IsMemory locals heap memory) (places : ℕ → ℕ) (objects : List Object) (keeps : Keeps memory places objects) (b : ℕ) (there : IsThere objects b) where
  abbrev first_granule : ℕ
  first_granule = (places b - 32) / 16

  abbrev many_granules : ℕ
  many_granules = block_size (header_of memory.bytes (places b)).size / 16

  -- the block stands in whole granules
  pub record IsWhole : Type 0 where
    pub start : 16 * first_granule + 32 ≡ places b
    pub end : 16 * (first_granule + many_granules) ≡ places b - 32 + block_size (object_at objects b).size
    pub inside : places b - 32 + block_size (object_at objects b).size ≤ length memory.bytes

  pub whole : IsWhole
  whole =
      let old = keeps.standing b there in
      let range = range_of (object_at objects b).sort in
      let room = old.room in
      let block = own_is_block memory places objects keeps b there in
      let base : (heap_of memory range).base % 16 ≡ 0 = shape.aligned range in
      let place : (places b - ((heap_of memory range).base + 32)) % 16 ≡ 0 = block.aligned in
      let same : block_size (header_of memory.bytes (places b)).size ≡ block_size (object_at objects b).size = ap block_size old.header.size in
      let size_whole : block_size (object_at objects b).size % 16 ≡ 0 = block.whole in
      let within : places b - ((heap_of memory range).base + 32) + block_size (object_at objects b).size ≤ (heap_of memory range).len = block.within in
      let ends = range_inside locals heap memory shape range in
      let start : (places b - 32) % 16 ≡ 0 = aligned_sum (heap_of memory range).base (places b - ((heap_of memory range).base + 32)) (places b - 32) base place (omega arith) in
      let n = block_size (header_of memory.bytes (places b)).size in
      let n_whole : n % 16 ≡ 0 = ap (λ m. m % 16) same ∙ size_whole in
      record {
        start = omega arith;
        end = omega arith;
        inside = omega arith;
      } where
        aligned_sum : (x y z : ℕ) → x % 16 ≡ 0 → y % 16 ≡ 0 → z ≡ x + y → z % 16 ≡ 0
        aligned_sum x y z hx hy e = omega arith

  -- a pointer leads into one granule of the block exactly where it leads to the object
  one_pointer : (p : Pointer) → LeadsSomewhere objects p → sum_to (λ k. one_if (leads_into places (first_granule + k) p)) many_granules ≡ one_if (is_pointer_to b p)
  one_pointer pointer.Null leads = sum_to_none many_granules
  one_pointer (pointer.At c offset) leads =
      let w = whole in
      let start = w.start in
      let end = w.end in
      let size = (object_at objects b).size in
      let inside = leads.1 in
      elim (cases_eq c b) [
        | inl e ↦
            let place : places c ≡ places b = ap places e in
            let fits : (object_at objects c).size ≡ size = ap (λ x. (object_at objects x).size) e in
            let met = met_in ((places c + offset) / 16) first_granule many_granules (omega arith) (omega arith) in
            let own : one_if (is_pointer_to b (pointer.At c offset)) ≡ 1 = ap one_if (eq-eqb c b e) in
            omega arith
        | inr differ ↦
            let apart = objects_apart locals heap memory shape places objects keeps c b leads.0 there differ in
            let out : ((places c + offset) / 16 < first_granule) ⊎ (first_granule + many_granules ≤ (places c + offset) / 16) = elim apart [ inl h ↦ inl (omega arith) | inr h ↦ inr (omega arith) ] in
            let met = met_out ((places c + offset) / 16) first_granule many_granules out in
            let own : one_if (is_pointer_to b (pointer.At c offset)) ≡ 0 = ap one_if (ne_eqb c b differ) in
            omega arith
      ]

  -- so the counts of the block's granules are together the number of the object
  pub granules_number : (ps : List Pointer) → All (LeadsSomewhere objects) ps → sum_by (λ g. count_by (leads_into places g) ps) (granules_of memory.bytes (places b)) ≡ pointers_to b ps
  granules_number ps lead =
      sum_ranged (λ g. count_by (leads_into places g) ps) first_granule many_granules
      ∙ sums_swapped (λ k p. one_if (leads_into places (first_granule + k) p)) ps many_granules
      ∙ sum_same (λ p. sum_to (λ k. one_if (leads_into places (first_granule + k) p)) many_granules) (λ p. one_if (is_pointer_to b p)) ps (λ k d less. one_pointer (get_or ps k d) (lead k d less))

-- The check

first_mapped : (f : ℕ → ℕ) (p q : ℕ → Bool) (queue : List ℕ) → ((k d : ℕ) → k < length queue → p (f (get_or queue k d)) ≡ q (get_or queue k d)) → first_held p (map f queue) ≡ option_map f (first_held q queue)
first_mapped f p q [] same = refl
first_mapped f p q (b ∷ queue) same =
    let rest = first_mapped f p q queue (λ k d less. same (suc k) d (omega arith)) in
    let here : p (f b) ≡ q b = same 0 b (omega arith) in
    one (p (f b)) (q b) here rest where
      one : (s t : Bool) → s ≡ t → first_held p (map f queue) ≡ option_map f (first_held q queue) → cond s (Some (f b)) (first_held p (map f queue)) ≡ option_map f (cond t (Some b) (first_held q queue))
      one true true e rest = refl
      one true false e rest = absurd (cc)
      one false true e rest = absurd (cc)
      one false false e rest = rest

pub at_buried : (objects : List Object) (b : ℕ) → object_at (buried objects) b ≡ bury (object_at objects b)
at_buried [] b = refl
at_buried (o ∷ objects) zero = refl
at_buried (o ∷ objects) (suc b) = at_buried objects b

module _ (locals heap : ℕ) (memory : Memory) (shape : IsMemory locals heap memory) (places : ℕ → ℕ) (objects : List Object) (keeps : Keeps memory places objects) (frees : Frees) (tracks : Tracks memory places objects frees) where
  -- the pointers that count beside those inside queued objects
  abbrev pub others : List Pointer
  others = living_pointers (buried objects) ++ frees.pins

  pub left_lead : All (LeadsSomewhere objects) (living_pointers (buried objects))
  left_lead =
      all_flat (LeadsSomewhere objects) pointers_in (buried objects) (λ k d less.
      let o = object_at objects k in
      let here : bury o ≡ get_or (buried objects) k d = sym (at_buried objects k) ∙ get_or_default (buried objects) k no_object d less in
      subst (λ (x : Object). All (LeadsSomewhere objects) (pointers_in x)) here (left o.standing o.pointers (inside_lead memory places objects keeps k))) where
        left : (s : Standing) (ps : List Pointer) → All (LeadsSomewhere objects) (cond (is_dead s) [] ps) → All (LeadsSomewhere objects) (cond (is_dead (buried_standing s)) [] ps)
        left object.Live ps all = all
        left (object.Queued line) ps all = All-nil (LeadsSomewhere objects)
        left object.Dead ps all = All-nil (LeadsSomewhere objects)

  pub others_lead : All (LeadsSomewhere objects) others
  others_lead = All-append (LeadsSomewhere objects) (living_pointers (buried objects)) frees.pins left_lead tracks.pinned

  queued_there_all : (k d : ℕ) → k < length frees.queue → IsThere objects (get_or frees.queue k d)
  queued_there_all = queue_there objects frees.queue tracks.queued

  abbrev pub words : List ℕ
  words = words_inside memory.forms memory.bytes (map places frees.queue)

  -- each count is what these pointers give, and those inside queued objects
  pub count_split : (g : ℕ) → g < length memory.counts.counts → get_or memory.counts.counts g 0 ≡ into_granule g words + count_by (leads_into places g) others
  count_split g less =
      let w : Pointer → ℕ = λ p. one_if (leads_into places g p) in
      let count = tracks.counts g less ∙ sum_by-append w (living_pointers objects) frees.pins in
      let split = living_split w objects frees.queue tracks.queued in
      let inside = words_lead_all memory places objects keeps g frees.queue queued_there_all in
      let all = sum_by-append w (living_pointers (buried objects)) frees.pins in
      omega arith

  -- the number of an object without the pointers inside queued objects
  pub numbers_left : (b : ℕ) → number_of objects frees b - pointers_inside b (objects_of objects frees.queue) ≡ pointers_to b others
  numbers_left b =
      let w : Pointer → ℕ = λ p. one_if (is_pointer_to b p) in
      let all = sum_by-append w (living_pointers objects) frees.pins in
      let split = living_split w objects frees.queue tracks.queued in
      let inside = sum_mapped (λ (o : Object). sum_by w o.pointers) (object_at objects) frees.queue in
      let left = sum_by-append w (living_pointers (buried objects)) frees.pins in
      omega arith

  -- what is left to an object in the counts of its block
  counts_left : (b : ℕ) → IsThere objects b → left_to memory.bytes memory.counts.counts words (places b) ≡ pointers_to b others
  counts_left b there =
      let w = whole locals heap memory shape places objects keeps b there in
      let first = (places b - 32) / 16 in
      let many = block_size (header_of memory.bytes (places b)).size / 16 in
      sum_ranged (λ g. get_or memory.counts.counts g 0 - into_granule g words) first many
      ∙ sum_to_same (λ k. get_or memory.counts.counts (first + k) 0 - into_granule (first + k) words) (λ k. count_by (leads_into places (first + k)) others) many
      (λ k less. let count = count_split (first + k) (omega (arith, w.end, w.inside, shape.granules)) in omega arith)
      ∙ sym (sum_ranged (λ g. count_by (leads_into places g) others) first many)
      ∙ granules_number locals heap memory shape places objects keeps b there others others_lead

  pub check_same : checked memory.forms memory.bytes memory.counts.counts (map places frees.queue) ≡ option_map places (check_numbers objects frees.queue (number_of objects frees))
  check_same =
      first_mapped places (λ a. not (nat_eq (left_to memory.bytes memory.counts.counts words a) 0)) (λ b. not (nat_eq (number_of objects frees b - pointers_inside b (objects_of objects frees.queue)) 0)) frees.queue
      (λ k d less. let b = get_or frees.queue k d in ap (λ n. not (nat_eq n 0)) (counts_left b (queued_there_all k d less) ∙ sym (numbers_left b)))

  -- no pointer leads into a granule without a count
  pub none_past : (g : ℕ) → length memory.counts.counts ≤ g → (ps : List Pointer) → All (LeadsSomewhere objects) ps → count_by (leads_into places g) ps ≡ 0
  none_past g past ps lead =
      sum_same (λ p. one_if (leads_into places g p)) (λ p. 0) ps (λ k d less. ap one_if (nowhere (get_or ps k d) (lead k d less))) ∙ zeros ps where
        nowhere : (p : Pointer) → LeadsSomewhere objects p → leads_into places g p ≡ false
        nowhere pointer.Null h = refl
        nowhere (pointer.At b offset) h =
            let inside = own_inside memory places objects keeps b h.0 locals heap shape in
            let near = h.1 in
            ne_eqb ((places b + offset) / 16) g (λ e. omega (arith, shape.granules))

        zeros : (ps : List Pointer) → sum_by (λ (p : Pointer). 0) ps ≡ 0
        zeros [] = refl
        zeros (p ∷ ps) = let step = sum_by-cons (λ (q : Pointer). 0) p ps in let rest = zeros ps in omega arith

  covered : (g : ℕ) → into_granule g words ≤ get_or memory.counts.counts g 0
  covered g =
      elim (cases_lt g (length memory.counts.counts)) [
        | inl h ↦ let count = count_split g h in omega arith
        | inr h ↦
            let inside = words_lead_all memory places objects keeps g frees.queue queued_there_all in
            let w : Pointer → ℕ = λ p. one_if (leads_into places g p) in
            let split = living_split w objects frees.queue tracks.queued in
            let none = none_past g h (living_pointers objects) (living_lead memory places objects keeps) in
            omega arith
      ]

  -- the check may be made
  pub ready : IsReady memory.scopes memory.heap memory.bytes memory.counts memory.forms (blocks_of memory places objects Heap) (map places frees.queue)
  ready = record {
    kept = record { holds = keeps.held Heap; headers = has_headers memory places objects Heap keeps; queued = tracks.links };
    births = own_births memory places objects Heap;
    inside = shape.heap_end;
    granules = omega (arith, shape.granules);
    known = All-map (λ a. (header_of memory.bytes a).layout < length memory.forms) places frees.queue
        (λ k d less. let b = get_or frees.queue k d in
        let old = keeps.standing b (queued_there_all k d less) in
        slice_get_within memory.forms (header_at memory.bytes (places b - 32)).layout old.slots.0 old.slots.1);
    covered = covered;
  }
