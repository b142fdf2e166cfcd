-- What a memory keeps and tracks after an object was placed.
use Rattle.std.proofs.Common.{◌≡◌, ◌<◌, ◌≤◌, ◌+◌, ◌-◌, ◌/◌, inl, inr, ℕ, suc, true, false, Option, Some, None, List, [], ◌∷◌, ◌++◌, length, get_or, replicate, sym, ap, ◌∙◌, refl, subst, arith, length-append}
use Rattle.std.specs.Prelude.{All, map, filter, Contains, nat_eq, option_map, slice_index, slice_index_or, IfSome, MatchOption}
use Rattle.std.specs.List.{sum_by, count_by, flat_map}
use Rattle.std.proofs.lemmas.Bool.{cases_Bool, cases_order, cond-true}
use Rattle.std.proofs.lemmas.Grind.{flat_map-append}
use Rattle.std.proofs.lemmas.List.{append-nil, get_or_default, get_or_past}
use Rattle.std.proofs.lemmas.List.Elements.{All-append, All-map, All-nil}
use Rattle.std.proofs.lemmas.List.Sums.{sum_by-append, sum_by-cons}
use Rattle.hs_base.specs.declared.values.Pointer.{Pointer}
use Rattle.hs_base.specs.declared.values.Pointer.TheVariants as pointer
use Rattle.byte_memory.specs.Bytes.{part, word}
use Rattle.hs_base.specs.Freeing.{is_heap}
use Rattle.hs_base.specs.Object as object
use Rattle.hs_base.specs.Object.{Object, Standing, is_dead, is_queued, no_object, object_at}
use Rattle.hs_base.specs.Place.{Block, block_size, with_block}
use Rattle.heap_blocks.specs.declared.headers.Header.{Header}
use Rattle.heap_blocks.specs.Bytes.{ChangesOnly}
use Rattle.heap_blocks.specs.Heads.{header_at, new_header}
use Rattle.heap_blocks.specs.Held.{HasBounds, Holds, IsPlaced, address_of}
use Rattle.count_table.specs.Table.{Table}
use Rattle.delay_scopes.specs.Queue.{HasQueue, ScopesModel, header_of}
use Rattle.byte_marks.specs.Marks.{ChangesMarks, IsMarked}
use Rattle.flat_objects.specs.Memory.{Memory, Range, Heap, IsMemory, heap_of, range_of}
use Rattle.flat_objects.specs.Keeping.{Keeps, HasSlots, IsLineOf, IsStateOf, block_of, blocks_of, stands_in}
use Rattle.flat_objects.specs.Adding.{with_place, IsAdded}
use Rattle.flat_objects.specs.Counting.{AreQueued, Frees, LeadsSomewhere, Tracks, leads_into, living_pointers, pointers_in}
use Rattle.flat_objects.proofs.Added.{IsBlank, IsPlacement, added, at_new, at_old, blocks_joined, contains_left, old_outside, place_other, same_base}
use Rattle.flat_objects.proofs.Blocks.{there_below}
use Rattle.flat_objects.proofs.Changing.{header_kept, part_outside}
use Rattle.flat_objects.proofs.Counted.{leads_somewhere, pointers_there}
use Rattle.flat_objects.specs.SumEquations.{sum_same}
use Rattle.flat_objects.proofs.Tallies.{one_if}
use Rattle.flat_objects.proofs.Tracked.{links_kept, queue_there}

-- The pointers inside objects lead somewhere

pub all_flat : {X Y : Type 0} (P : Y → Type 0) (f : X → List Y) (xs : List X) → ((k : ℕ) (d : X) → k < length xs → All P (f (get_or xs k d))) → All P (flat_map f xs)
all_flat P f [] each = All-nil P
all_flat P f (x ∷ xs) each = All-append P (f x) (flat_map f xs) (each 0 x (omega arith)) (all_flat P f xs (λ k d less. each (suc k) d (omega arith)))

module _ (memory : Memory) (places : ℕ → ℕ) (objects : List Object) (keeps : Keeps memory places objects) where
  pub inside_lead : (k : ℕ) → All (LeadsSomewhere objects) (pointers_in (object_at objects k))
  inside_lead k =
      let o = object_at objects k in
      elim (cases_Bool (is_dead o.standing)) [
        | inl dead ↦ subst (All (LeadsSomewhere objects)) (sym (cond-true (is_dead o.standing) [] o.pointers dead)) (All-nil (LeadsSomewhere objects))
        | inr there ↦
            let old = keeps.standing k there in
            subst (All (LeadsSomewhere objects)) (sym (pointers_there o there))
            (λ i e below. let slot : i < length o.slots = omega (arith, old.many) in
            subst (LeadsSomewhere objects) (get_or_default o.pointers i pointer.Null e below)
            (leads_somewhere places objects (slice_index_or o.pointers i pointer.Null) (word memory.bytes (places k + slice_index o.slots i) 4) (old.pointers i slot)))
      ]

  pub living_lead : All (LeadsSomewhere objects) (living_pointers objects)
  living_lead =
      all_flat (LeadsSomewhere objects) pointers_in objects (λ k d less.
      let here : object_at objects k ≡ get_or objects k d = get_or_default objects k no_object d less in
      subst (λ (o : Object). All (LeadsSomewhere objects) (pointers_in o)) here (inside_lead k))

-- One object more

-- the memory keeps it, and tracks what it tracked
pub record IsMade (memory next : Memory) (places : ℕ → ℕ) (objects : List Object) (new : Object) (addr : ℕ) : Type 0 where
  pub added : IsAdded next places objects new addr
  pub tracks : (frees : Frees) → Tracks memory places objects frees → Tracks next (with_place places (length objects) addr) (objects ++ new ∷ []) frees

module _ (places : ℕ → ℕ) (objects : List Object) (new : Object) (addr : ℕ) where
  lead_old : (p : Pointer) → LeadsSomewhere objects p → LeadsSomewhere (objects ++ new ∷ []) p
  lead_old pointer.Null h = tt
  lead_old (pointer.At birth offset) h =
      let same = at_old objects new birth (there_below objects birth h.0) in
      let inside = h.1 in
      (ap (λ (o : Object). is_dead o.standing) same ∙ h.0, omega (arith, ap (λ (o : Object). o.size) same))

  same_lead : (g : ℕ) (p : Pointer) → LeadsSomewhere objects p → leads_into (with_place places (length objects) addr) g p ≡ leads_into places g p
  same_lead g pointer.Null h = refl
  same_lead g (pointer.At birth offset) h =
      let below = there_below objects birth h.0 in
      ap (λ a. nat_eq ((a + offset) / 16) g) (place_other places (length objects) addr birth (λ e. omega arith))

  counts_old : (g : ℕ) (ps : List Pointer) → All (LeadsSomewhere objects) ps → count_by (leads_into (with_place places (length objects) addr) g) ps ≡ count_by (leads_into places g) ps
  counts_old g ps lead =
      sum_same (λ p. one_if (leads_into (with_place places (length objects) addr) g p)) (λ p. one_if (leads_into places g p)) ps (λ k d less. ap one_if (same_lead g (get_or ps k d) (lead k d less)))

  -- null pointers lead nowhere
  nulls_none : (g : ℕ) (ps : List Pointer) → ((k : ℕ) → k < length ps → slice_index_or ps k pointer.Null ≡ pointer.Null) → count_by (leads_into (with_place places (length objects) addr) g) ps ≡ 0
  nulls_none g [] null = refl
  nulls_none g (p ∷ ps) null =
      let w : Pointer → ℕ = λ q. one_if (leads_into (with_place places (length objects) addr) g q) in
      let first : w p ≡ 0 = ap w (null 0 (omega arith)) in
      let rest = nulls_none g ps (λ k less. null (suc k) (omega arith)) in
      let step = sum_by-cons w p ps in
      omega arith

  map_old : (births : List ℕ) → ((k d : ℕ) → k < length births → get_or births k d < length objects) → map (with_place places (length objects) addr) births ≡ map places births
  map_old [] below = refl
  map_old (b ∷ births) below =
      let first : b < length objects = below 0 b (omega arith) in
      let same = place_other places (length objects) addr b (λ e. omega arith) in
      let rest = map_old births (λ k d less. below (suc k) d (omega arith)) in
      λ i. same i ∷ rest i

  queued_old : new.standing ≡ object.Live → (queue : List ℕ) → AreQueued objects queue → AreQueued (objects ++ new ∷ []) queue
  queued_old live queue are = record {
    heap = λ k d less.
        let same = at_old objects new (get_or queue k d) (there_below objects (get_or queue k d) (queue_there objects queue are k d less)) in
        ap (λ (o : Object). is_heap o.sort) same ∙ are.heap k d less;
    exact = λ birth.
        elim (cases_order birth (length objects)) [
          | inr (inl below) ↦
              let same = ap (λ (o : Object). is_queued o.standing) (at_old objects new birth below) in
              (λ at. same ∙ (are.exact birth).0 at, λ queued. (are.exact birth).1 (sym same ∙ queued))
          | inl e ↦
              let none : is_queued (object_at (objects ++ new ∷ []) birth).standing ≡ false =
              ap (λ b. is_queued (object_at (objects ++ new ∷ []) b).standing) e ∙ ap (λ (o : Object). is_queued o.standing) (at_new objects new) ∙ ap is_queued live in
              let past : is_queued (object_at objects birth).standing ≡ false = ap (λ (o : Object). is_queued o.standing) (get_or_past objects birth no_object (omega arith)) in
              (λ at. absurd (both (sym past ∙ (are.exact birth).0 at)), λ queued. absurd (both (sym none ∙ queued)))
          | inr (inr above) ↦
              let none : is_queued (object_at (objects ++ new ∷ []) birth).standing ≡ false =
              ap (λ (o : Object). is_queued o.standing) (get_or_past (objects ++ new ∷ []) birth no_object (omega (arith, length-append objects (new ∷ [])))) in
              let past : is_queued (object_at objects birth).standing ≡ false = ap (λ (o : Object). is_queued o.standing) (get_or_past objects birth no_object (omega arith)) in
              (λ at. absurd (both (sym past ∙ (are.exact birth).0 at)), λ queued. absurd (both (sym none ∙ queued)))
        ];
    distinct = are.distinct;
  } where
    both : false ≡ true → ⊥
    both e = cc

module _ (locals heap : ℕ) (memory next : Memory) (shape : IsMemory locals heap memory) (places : ℕ → ℕ) (objects : List Object) (keeps : Keeps memory places objects) (new : Object) (blank : IsBlank new) (live : new.standing ≡ object.Live) (place addr : ℕ) (placed : IsPlacement memory next places objects new place addr) where
  abbrev new_places : ℕ → ℕ
  new_places = with_place places (length objects) addr

  made_tracks : (frees : Frees) → Tracks memory places objects frees → Tracks next new_places (objects ++ new ∷ []) frees
  made_tracks frees tracks = record {
    counts = λ g less.
        let w : Pointer → ℕ = λ p. one_if (leads_into new_places g p) in
        let inside : g < length memory.counts.counts = subst (λ (t : Table). g < length t.counts) placed.counts less in
        let same : get_or next.counts.counts g 0 ≡ get_or memory.counts.counts g 0 = ap (λ (t : Table). get_or t.counts g 0) placed.counts in
        let old = tracks.counts g inside ∙ sum_by-append (λ p. one_if (leads_into places g p)) (living_pointers objects) frees.pins in
        let living = counts_old places objects new addr g (living_pointers objects) (living_lead memory places objects keeps) in
        let pins = counts_old places objects new addr g frees.pins tracks.pinned in
        let own : sum_by w (pointers_in new) ≡ 0 = ap (sum_by w) (pointers_there new blank.there) ∙ nulls_none places objects new addr g new.pointers (λ k less. blank.pointers k (omega (arith, blank.many))) in
        let split : sum_by w (living_pointers (objects ++ new ∷ [])) ≡ sum_by w (living_pointers objects) + sum_by w (pointers_in new) =
        ap (sum_by w) (flat_map-append pointers_in objects (new ∷ []) ∙ ap (λ ps. living_pointers objects ++ ps) (append-nil (pointers_in new))) ∙ sum_by-append w (living_pointers objects) (pointers_in new) in
        let all = sum_by-append w (living_pointers (objects ++ new ∷ [])) frees.pins in
        omega arith;
    pinned = λ i d less. lead_old places objects new addr (get_or frees.pins i d) (tracks.pinned i d less);
    few = subst (λ (t : Table). length frees.pins ≤ t.most - length next.bytes / 4) (sym placed.counts) (subst (λ n. length frees.pins ≤ memory.counts.most - n / 4) (sym placed.changes.long) tracks.few);
    queued = queued_old places objects new addr live frees.queue tracks.queued;
    links =
        let below : (k d : ℕ) → k < length frees.queue → get_or frees.queue k d < length objects = λ k d less. there_below objects (get_or frees.queue k d) (queue_there objects frees.queue tracks.queued k d less) in
        let blocks = blocks_joined locals heap memory next shape places objects keeps new blank place addr placed Heap in
        let more = map (block_of new_places memory.heap.base) (filter (stands_in Heap) ((0 + length objects, new) ∷ [])) in
        let kept = links_kept memory.scopes memory.heap.base memory.bytes next.bytes (blocks_of memory places objects Heap) (blocks_of next new_places (objects ++ new ∷ []) Heap) (map places frees.queue) tracks.links
        (All-map (λ a. header_of next.bytes a ≡ header_of memory.bytes a) places frees.queue (λ k d less.
        let birth = get_or frees.queue k d in
        let there = queue_there objects frees.queue tracks.queued k d less in
        let old = keeps.standing birth there in
        header_kept memory.bytes next.bytes (addr - 32) (block_size new.size) (places birth - 32) placed.changes
        (part_outside (places birth - 32) ((object_at objects birth).size + 32) (addr - 32) (block_size new.size) (places birth - 32) 32 (old_outside locals heap memory next shape places objects keeps new blank place addr placed birth there) (omega arith) (omega arith))))
        (λ b held. subst (λ (l : List Block). Contains l b) (sym blocks) (contains_left (blocks_of memory places objects Heap) more b held)) in
        subst (λ (s : ScopesModel). HasQueue s next.heap.base next.bytes (blocks_of next new_places (objects ++ new ∷ []) Heap) (map new_places frees.queue)) (sym placed.scopes)
        (subst (λ (b : ℕ). HasQueue memory.scopes b next.bytes (blocks_of next new_places (objects ++ new ∷ []) Heap) (map new_places frees.queue)) (sym (same_base locals heap memory next shape places objects keeps new blank place addr placed Heap))
        (subst (HasQueue memory.scopes memory.heap.base next.bytes (blocks_of next new_places (objects ++ new ∷ []) Heap)) (sym (map_old places objects new addr frees.queue below)) kept));
    open_scopes = ap (λ (s : ScopesModel). s.depth) placed.scopes ∙ tracks.open_scopes;
  }

  pub made : IsMade memory next places objects new addr
  made = record { added = added locals heap memory next shape places objects keeps new blank place addr placed; tracks = made_tracks }

-- what holds of the value of an option
pub some_more : {X : Type 0} (o : Option X) (P Q : X → Type 0) → ((v : X) → P v → Q v) → IfSome o P → IfSome o Q
some_more None P Q h is = tt
some_more (Some v) P Q h is = h v is

-- What a call of a heap's placement says

pub placed_object : (locals heap : ℕ) (memory next : Memory) → IsMemory locals heap memory → (places : ℕ → ℕ) (objects : List Object) → Keeps memory places objects → (new : Object) → IsBlank new → (fit result : Option ℕ) (size layout line birth : ℕ)
    → result ≡ option_map (address_of (heap_of memory (range_of new.sort))) fit
    → Holds (heap_of next (range_of new.sort)) (with_block (blocks_of memory places objects (range_of new.sort)) birth (block_size size) fit)
    → HasBounds (heap_of memory (range_of new.sort)).base (heap_of memory (range_of new.sort)).len (heap_of next (range_of new.sort))
    → IfSome result (λ addr. IsPlaced memory.bytes next.bytes addr (block_size size) (new_header birth size layout line))
    → next.forms ≡ memory.forms → next.counts ≡ memory.counts → next.scopes ≡ memory.scopes → ((range : Range) → (range_of new.sort ≡ range → ⊥) → heap_of next range ≡ heap_of memory range)
    → birth ≡ length objects → new.size ≡ size → new.standing ≡ object.Live → IsLineOf new.sort line → HasSlots memory.forms layout new
    → MatchOption result (next.marks ≡ memory.marks) (λ addr. ChangesMarks memory.marks next.marks addr size) → IfSome result (λ addr. IsMarked next.marks addr size new.slots)
    → IfSome result (IsMade memory next places objects new)
placed_object locals heap memory next shape places objects keeps new blank fit None size layout line birth result_is holds bounds placed forms counts scopes others birth_is size_is live born slots marks marked = tt
placed_object locals heap memory next shape places objects keeps new blank None (Some addr) size layout line birth result_is holds bounds placed forms counts scopes others birth_is size_is live born slots marks marked = absurd (cc)
placed_object locals heap memory next shape places objects keeps new blank (Some place) (Some addr) size layout line birth result_is holds bounds placed forms counts scopes others birth_is size_is live born slots marks marked =
    let address : addr ≡ (heap_of memory (range_of new.sort)).base + place + 32 = cc in
    let header : header_at next.bytes (addr - 32) ≡ new_header birth size layout line = placed.header in
    made locals heap memory next shape places objects keeps new blank live place addr (record {
      forms = forms;
      counts = counts;
      scopes = scopes;
      others = others;
      bounds = bounds;
      address = address;
      holds = subst (λ (n : ℕ). Holds (heap_of next (range_of new.sort)) (blocks_of memory places objects (range_of new.sort) ++ record { birth = length objects; place = place; length = block_size n } ∷ [])) (sym size_is)
          (subst (λ (b : ℕ). Holds (heap_of next (range_of new.sort)) (blocks_of memory places objects (range_of new.sort) ++ record { birth = b; place = place; length = block_size size } ∷ [])) birth_is holds);
      changes = subst (λ (n : ℕ). ChangesOnly memory.bytes next.bytes (addr - 32) (block_size n)) (sym size_is) placed.outside;
      header = record {
        born = ap (λ (h : Header). h.birth) header ∙ birth_is;
        size = ap (λ (h : Header). h.size) header ∙ sym size_is;
        line = subst (IsLineOf new.sort) (sym (ap (λ (h : Header). h.line) header)) born;
        state = subst (λ (s : Standing). IsStateOf s (header_at next.bytes (addr - 32))) (sym live) (ap (λ (h : Header). h.state) header);
      };
      slots = subst (λ (n : ℕ). HasSlots memory.forms n new) (sym (ap (λ (h : Header). h.layout) header)) slots;
      zero = ap (part next.bytes addr) size_is ∙ placed.zero ∙ ap (λ n. replicate n 0) (sym size_is);
      marks = subst (λ (n : ℕ). ChangesMarks memory.marks next.marks addr n) (sym size_is) marks;
      marked = subst (λ (n : ℕ). IsMarked next.marks addr n new.slots) (sym size_is) marked;
    })
