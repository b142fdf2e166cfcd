-- A search for the pointers to an object.
use Rattle.std.proofs.Common.{◌≡◌, ◌<◌, ◌≤◌, ◌+◌, ◌-◌, ◌*◌, ◌/◌, ◌%◌, ◌∙◌, ◌⊎◌, inl, inr, ℕ, zero, suc, Bool, true, false, Option, Some, None, List, [], ◌∷◌, ◌++◌, length, get_or, refl, sym, ap, subst, arith}
use Rattle.std.specs.Prelude.{Contains, IfSome, find, map, filter, nat_eq, nat_lt, option_map, slice_index, slice_index_or, ◌||◌}
use Rattle.std.specs.List.{enumerate_from, flat_map}
use Rattle.std.proofs.lemmas.Bool.{cases_Bool, cases_eq, cases_lt, cond-true, cond-false, eq-eqb, eqb-true, ne_eqb, lt-ltb, le-ltb}
use Rattle.std.proofs.lemmas.List.{get_or_default}
use Rattle.hs_base.specs.declared.ends.Holder.{Holder}
use Rattle.hs_base.specs.declared.values.Pointer.{Pointer}
use Rattle.hs_base.specs.declared.values.Pointer.TheVariants as pointer
use Rattle.byte_memory.specs.Bytes.{word}
use Rattle.hs_base.specs.Freeing.{is_pointer_to}
use Rattle.hs_base.specs.Object as object
use Rattle.hs_base.specs.Object.{Object, Standing, is_dead, is_queued, no_object, object_at}
use Rattle.hs_base.specs.Place.{Block, block_size}
use Rattle.adjusters.specs.ObjectSlots.{Element, object_slots}
use Rattle.heap_blocks.specs.declared.headers.Header.{Header}
use Rattle.heap_blocks.specs.Heads.{header_at}
use Rattle.heap_blocks.specs.Held.{HeapModel, Holds, address_of, has_address, owner_of}
use Rattle.object_meaning.specs.objects.Holding.{counted_inside, first_of, inside, inside_objects, inside_one, is_among}
use Rattle.flat_objects.specs.declared.holders.Holding.{Holding}
use Rattle.flat_objects.specs.declared.holders.Storage.{Storage}
use Rattle.flat_objects.specs.Memory.{Memory, Range, Statics, Locals, Heap, IsMemory, end_of, heap_of, range_of}
use Rattle.flat_objects.specs.Standing.{IsThere, IsAddressOf}
use Rattle.flat_objects.specs.Keeping.{Keeps, HasSlots, IsLineOf, IsStateOf, blocks_of}
use Rattle.flat_objects.specs.Counting.{AreQueued}
use Rattle.flat_objects.specs.Holders.{IsIn, IsKeptObject, holder_of, older, storage_of}
use Rattle.flat_objects.specs.Searching.{HasNoneBelow, HoldsNone, IsFirstAt, IsFirstSlot, IsHolding, IsHoldingAt, IsKeptSlots}
use Rattle.flat_objects.proofs.Apart.{objects_apart}
use Rattle.flat_objects.proofs.Ascending.{slot_ends}
use Rattle.flat_objects.proofs.Blocks.{IsWithin, block_is_held, own_block, owner_is, there_below}
use Rattle.flat_objects.proofs.HeldBlocks.{all_blocks}
use Rattle.flat_objects.proofs.Numbers.{whole}
use Rattle.flat_objects.proofs.Owners.{own_inside, own_is_block, own_lies}
use Rattle.flat_objects.proofs.Reached.{are_slots, slots_are}

-- Addresses of pointers to an object

module _ (locals heap : ℕ) (memory : Memory) (shape : IsMemory locals heap memory) (places : ℕ → ℕ) (objects : List Object) (keeps : Keeps memory places objects) (other : ℕ) (there : IsThere objects other) where
  pub leads_in : (p : Pointer) (a : ℕ) → IsAddressOf places objects p a → places other ≤ a → a ≤ places other + (object_at objects other).size → is_pointer_to other p ≡ true
  leads_in pointer.Null a is low high =
      let room = (keeps.standing other there).room in absurd (omega (arith, is))
  leads_in (pointer.At b offset) a is low high =
      elim (cases_eq b other) [
        | inl e ↦ eq-eqb b other e
        | inr differ ↦
            elim (objects_apart locals heap memory shape places objects keeps b other is.there there differ) [
              | inl h ↦ absurd (omega (arith, is.address, is.inside))
              | inr h ↦ absurd (omega (arith, is.address, is.inside))
            ]
      ]

  pub leads_out : (p : Pointer) (a : ℕ) → IsAddressOf places objects p a → (a < places other) ⊎ (places other + (object_at objects other).size < a) → is_pointer_to other p ≡ false
  leads_out pointer.Null a is out = refl
  leads_out (pointer.At b offset) a is out =
      ne_eqb b other (λ e. let place : places b ≡ places other = ap places e in
      let size : (object_at objects b).size ≡ (object_at objects other).size = ap (λ x. (object_at objects x).size) e in
      elim out [ inl h ↦ omega (arith, is.address, is.inside) | inr h ↦ omega (arith, is.address, is.inside) ])

-- One object

module _ (locals heap : ℕ) (memory : Memory) (shape : IsMemory locals heap memory) (places : ℕ → ℕ) (objects : List Object) (birth other start size layout target target_size : ℕ) (kept : IsKeptSlots memory places objects birth other start size layout target target_size)
    (form : Element) (read : form ≡ get_or memory.forms layout form) where
  pub slots_same : object_slots form size ≡ (object_at objects birth).slots
  slots_same = slots_are memory.forms layout (object_at objects birth) form size kept.slots read kept.own_size

  module _ (k : ℕ) (less : k < length (object_slots form size)) where
    pub slot_below : k < length (object_at objects birth).slots
    slot_below = subst (λ (l : List ℕ). k < length l) slots_same less

    pub slot_inside : start + slice_index (object_slots form size) k + 4 ≤ length memory.bytes
    slot_inside =
        let o = object_at objects birth in
        let old = kept.keeps.standing birth kept.there in
        let inside = own_inside memory places objects kept.keeps birth kept.there locals heap shape in
        let slot : slice_index (object_slots form size) k ≡ slice_index o.slots k = ap (λ l. slice_index l k) slots_same in
        let ends = slot_ends 0 o.size o.slots (slice_index o.slots k) (are_slots locals heap memory _ o shape old.slots) (k, slot_below, get_or_default o.slots k (slice_index o.slots k) 0 slot_below) in
        omega (arith, kept.starts)

    -- the word in the slot stands for its pointer
    stands_in_slot : (w : ℕ) → w ≡ word memory.bytes (start + slice_index (object_slots form size) k) 4 → IsAddressOf places objects (slice_index_or (object_at objects birth).pointers k pointer.Null) w
    stands_in_slot w w_is =
        let o = object_at objects birth in
        let old = kept.keeps.standing birth kept.there in
        let place : word memory.bytes (start + slice_index (object_slots form size) k) 4 ≡ word memory.bytes (places birth + slice_index o.slots k) 4 =
        (λ i. word memory.bytes (kept.starts i + slice_index (slots_same i) k) 4) in
        subst (IsAddressOf places objects (slice_index_or o.pointers k pointer.Null)) (sym (w_is ∙ place)) (old.pointers k slot_below)

    -- it leads to the other
    pub slot_found : (slot w : ℕ) → slot ≡ slice_index (object_slots form size) k → w ≡ word memory.bytes (start + slot) 4 → target ≤ w → w ≤ target + target_size → HasNoneBelow other (object_at objects birth) k → IsFirstAt other (object_at objects birth) slot
    slot_found slot w slot_is w_is low high none =
        let o = object_at objects birth in
        let old = kept.keeps.standing birth kept.there in
        let stands = stands_in_slot w (w_is ∙ ap (λ s. word memory.bytes (start + s) 4) slot_is) in
        let below = slot_below in
        record {
          number = k;
          inside = omega (arith, old.many);
          slot = ap (λ l. slice_index l k) (sym slots_same) ∙ sym slot_is;
          leads = leads_in locals heap memory shape places objects kept.keeps other kept.other_there (slice_index_or o.pointers k pointer.Null) w stands (omega (arith, kept.other_starts)) (omega (arith, kept.other_starts, kept.other_size));
          first = none;
        }

    -- it does not
    pub slot_not : (slot w : ℕ) → slot ≡ slice_index (object_slots form size) k → w ≡ word memory.bytes (start + slot) 4 → (w < target) ⊎ (target + target_size < w) → HasNoneBelow other (object_at objects birth) k → HasNoneBelow other (object_at objects birth) (k + 1)
    slot_not slot w slot_is w_is out none j below inside =
        let o = object_at objects birth in
        elim (cases_lt j k) [
          | inl h ↦ none j h inside
          | inr h ↦
              let e : j ≡ k = omega arith in
              let stands = stands_in_slot w (w_is ∙ ap (λ s. word memory.bytes (start + s) 4) slot_is) in
              let away : (w < places other) ⊎ (places other + (object_at objects other).size < w) = elim out [ inl l ↦ inl (omega (arith, kept.other_starts)) | inr r ↦ inr (omega (arith, kept.other_starts, kept.other_size)) ] in
              ap (λ i. is_pointer_to other (slice_index_or o.pointers i pointer.Null)) e ∙ leads_out locals heap memory shape places objects kept.keeps other kept.other_there (slice_index_or o.pointers k pointer.Null) w stands away
        ]

  -- each slot was looked at
  pub none_found : (n : ℕ) → length (object_slots form size) ≤ n → HasNoneBelow other (object_at objects birth) n → HasNoneBelow other (object_at objects birth) (length (object_at objects birth).pointers)
  none_found n all none k below inside =
      let old = kept.keeps.standing birth kept.there in
      let many = ap length slots_same in
      none k (omega (arith, old.many)) inside

-- The object whose block begins at an address

-- a block that has an address is one of the list
pub found_in : (heap : HeapModel) (addr start : ℕ) (held : List Block) → owner_of heap held addr ≡ Some start → (b : Block) × Contains held b × (start ≡ address_of heap b.place)
found_in heap addr start [] found = absurd (cc)
found_in heap addr start (b ∷ held) found =
    elim (cases_Bool (has_address heap addr b)) [
      | inl yes_has ↦
          let here = sym (ap (option_map (λ (b : Block). address_of heap b.place)) (cond-true (has_address heap addr b) (Some b) (find (has_address heap addr) held) yes_has)) ∙ found in
          (b, (0, omega arith, refl), sym (cc))
      | inr not_has ↦
          let rest = found_in heap addr start held (sym (ap (option_map (λ (b : Block). address_of heap b.place)) (cond-false (has_address heap addr b) (Some b) (find (has_address heap addr) held) not_has)) ∙ found) in
          (rest.0, (suc rest.1.0, omega (arith, rest.1.1), rest.1.2), rest.2)
    ]

module _ (locals heap : ℕ) (memory : Memory) (shape : IsMemory locals heap memory) (places : ℕ → ℕ) (objects : List Object) (keeps : Keeps memory places objects) where
  -- the object of a start that is an owner's
  pub record HasObject (start : ℕ) : Type 0 where
    pub birth : ℕ
    pub there : IsThere objects birth
    pub starts : start ≡ places birth

  pub owner_object : (range : Range) (addr start : ℕ) → owner_of (heap_of memory range) (blocks_of memory places objects range) addr ≡ Some start → HasObject start
  owner_object range addr start found =
      let base = (heap_of memory range).base in
      let in_held = found_in (heap_of memory range) addr start (blocks_of memory places objects range) found in
      let Q : Block → Type 0 = λ b. (a : ℕ) → a ≡ base + b.place + 32 → HasObject a in
      let all = all_blocks Q memory places objects range
      (λ birth there own a e. let room = subst (λ r. (heap_of memory r).base + 32 ≤ places birth) own (keeps.standing birth there).room in
      record { birth = birth; there = there; starts = omega arith }) in
      let at = in_held.1 in
      subst Q at.2 (all at.0 in_held.0 at.1) start in_held.2

  -- the owner of the address of a header is the object behind it
  pub owner_of_header : (b : ℕ) → IsThere objects b → (block : ℕ) → places b ≡ block + 32 → (found : Option ℕ) → ((range : Range) (held : List Block) → (heap_of memory range).base ≤ block → block < end_of (heap_of memory range) → Holds (heap_of memory range) held → found ≡ owner_of (heap_of memory range) held block) → found ≡ Some (places b)
  owner_of_header b there block place found answer =
      let range = range_of (object_at objects b).sort in
      let stands = keeps.standing b there in
      let lies = own_lies memory places objects keeps b there in
      let is_block = own_is_block memory places objects keeps b there in
      let own = own_block memory places objects b in
      let within : IsWithin (heap_of memory range) block own = record { above = omega (arith, stands.room); below = omega (arith, stands.room, is_block.room) } in
      let address : address_of (heap_of memory range) own.place ≡ places b = omega (arith, stands.room) in
      answer range (blocks_of memory places objects range) (omega (arith, lies.above)) (omega (arith, lies.below)) (keeps.held range)
      ∙ owner_is (heap_of memory range) block (blocks_of memory places objects range) own (keeps.held range) (block_is_held memory places objects b there) within ∙ ap Some address

  pub same_place : (b c : ℕ) → IsThere objects b → IsThere objects c → places b ≡ places c → b ≡ c
  same_place b c b_there c_there same =
      elim (cases_eq b c) [
        | inl e ↦ e
        | inr differ ↦
            elim (objects_apart locals heap memory shape places objects keeps b c b_there c_there differ) [
              | inl h ↦ absurd (omega arith)
              | inr h ↦ absurd (omega arith)
            ]
      ]

  state_waits : (s : Standing) (h : Header) → IsStateOf s h → h.state ≡ 2 → is_queued s ≡ true
  state_waits object.Live h is two = absurd (omega arith)
  state_waits (object.Queued line) h is two = refl
  state_waits object.Dead h is two = absurd is

  state_free : (s : Standing) (h : Header) → IsStateOf s h → (h.state ≡ 2 → ⊥) → is_queued s ≡ false
  state_free object.Live h is other = refl
  state_free (object.Queued line) h is other = absurd (other is.0)
  state_free object.Dead h is other = refl

  module _ (other block : ℕ) (start : ℕ) (begins : start ≡ block + 32) (found : HasObject start) (header : Header) (header_is : header ≡ header_at memory.bytes block) where
    own_header : header ≡ header_at memory.bytes (places found.birth - 32)
    own_header = header_is ∙ ap (header_at memory.bytes) (let e : block ≡ places found.birth - 32 = omega (arith, found.starts) in e)

    -- a queued one holds none
    pub queued_none : header.state ≡ 2 → (b : ℕ) → IsThere objects b → places b ≡ block + 32 → HoldsNone objects other b
    queued_none two b there place =
        let same = same_place b found.birth there found.there (omega (arith, found.starts)) in
        let old = keeps.standing found.birth found.there in
        let waits = state_waits (object_at objects found.birth).standing (header_at memory.bytes (places found.birth - 32)) old.header.state (ap (λ (h : Header). h.state) (sym own_header) ∙ two) in
        inl (ap (λ x. is_queued (object_at objects x).standing) same ∙ waits)

    -- what its slots are
    pub kept_slots : (target target_size : ℕ) → IsKeptObject memory places objects other target → target_size ≡ (object_at objects other).size → IsKeptSlots memory places objects found.birth other start header.size header.layout target target_size
    kept_slots target target_size kept size =
        let old = keeps.standing found.birth found.there in
        let same = own_header in
        record {
          keeps = keeps;
          there = found.there;
          starts = found.starts;
          own_size = ap (λ (h : Header). h.size) same ∙ old.header.size;
          slots = subst (λ n. HasSlots memory.forms n (object_at objects found.birth)) (sym (ap (λ (h : Header). h.layout) same)) old.slots;
          other_there = kept.there;
          other_starts = kept.address;
          other_size = size;
        }

    -- no slot of it leads to the other
    pub slots_none : IsFirstSlot other (object_at objects found.birth) None → (b : ℕ) → IsThere objects b → places b ≡ block + 32 → HoldsNone objects other b
    slots_none none b there place =
        let same = same_place b found.birth there found.there (omega (arith, found.starts)) in
        inr (subst (λ x. HasNoneBelow other (object_at objects x) (length (object_at objects x).pointers)) (sym same) none)

    -- one does
    pub slots_some : (offset : ℕ) (storage : Storage) → (header.state ≡ 2 → ⊥) → storage ≡ storage_of (object_at objects found.birth).sort → IsFirstAt other (object_at objects found.birth) offset → (let h : Holding = record { birth = header.birth; storage = storage; line = header.line; offset = offset } in IsHoldingAt places objects other block (Some h))
    slots_some offset storage not_queued storage_is first =
        let old = keeps.standing found.birth found.there in
        let same = own_header in
        let born : header.birth ≡ found.birth = ap (λ (h : Header). h.birth) same ∙ old.header.born in
        let place : places header.birth ≡ block + 32 = ap places born ∙ sym found.starts ∙ begins in (
          place,
          record {
            lies = record {
              there = subst (IsThere objects) (sym born) found.there;
              storage = storage_is ∙ ap (λ b. storage_of (object_at objects b).sort) (sym born);
              line = subst (λ x. IsLineOf (object_at objects x).sort header.line) (sym born) (subst (IsLineOf (object_at objects found.birth).sort) (sym (ap (λ (h : Header). h.line) same)) old.header.line);
            };
            waits_not = ap (λ x. is_queued (object_at objects x).standing) born ∙ state_free (object_at objects found.birth).standing (header_at memory.bytes (places found.birth - 32)) old.header.state (λ two. not_queued (ap (λ (h : Header). h.state) same ∙ two));
            first = subst (λ x. IsFirstAt other (object_at objects x) offset) (sym born) first;
          },
        )

-- All objects

-- what was found so far: of the objects that begin below an address
abbrev pub IsFirstSoFar : (ℕ → ℕ) → List Object → ℕ → ℕ → Option Holding → Type 0
IsFirstSoFar places objects other below None =
    (b : ℕ) → IsThere objects b → places b < below + 32 → HoldsNone objects other b
IsFirstSoFar places objects other below (Some h) =
    IsHolding objects other h × ((b : ℕ) → IsThere objects b → places b < below + 32 → HoldsNone objects other b ⊎ (h.birth ≤ b))

module _ (locals heap : ℕ) (memory : Memory) (shape : IsMemory locals heap memory) (places : ℕ → ℕ) (objects : List Object) (keeps : Keeps memory places objects) (other : ℕ) where
  -- an object begins at the start of a granule
  starts_whole : (b : ℕ) → IsThere objects b → (places b - 32) % 16 ≡ 0
  starts_whole b there =
      let w = whole locals heap memory shape places objects keeps b there in omega (arith, w.start)

  -- one granule more
  next_place : (b n : ℕ) → IsThere objects b → places b < 16 * (n + 1) + 32 → (places b < 16 * n + 32) ⊎ (places b ≡ 16 * n + 32)
  next_place b n there below =
      let even = starts_whole b there in
      let room = (keeps.standing b there).room in
      elim (cases_lt (places b) (16 * n + 32)) [ inl h ↦ inl h | inr h ↦ inr (omega arith) ]

  pub first_more : (n : ℕ) (first found : Option Holding) → IsFirstSoFar places objects other (16 * n) first → IsHoldingAt places objects other (16 * n) found → IsFirstSoFar places objects other (16 * (n + 1)) (older first found)
  first_more n None None before here = λ b there below.
      elim (next_place b n there below) [ inl h ↦ before b there h | inr e ↦ here b there e ]
  first_more n None (Some g) before here = (
    here.1,
    λ b there below.
        elim (next_place b n there below) [
          | inl h ↦ inl (before b there h)
          | inr e ↦ let same = same_place locals heap memory shape places objects keeps b g.birth there here.1.lies.there (e ∙ sym here.0) in inr (omega arith)
        ],
  )
  first_more n (Some h) None before here = (
    before.0,
    λ b there below.
        elim (next_place b n there below) [ inl l ↦ before.1 b there l | inr e ↦ inl (here b there e) ],
  )
  first_more n (Some h) (Some g) before here =
      elim (cases_lt g.birth h.birth) [
        | inl less ↦
            let is : older (Some h) (Some g) ≡ Some g = cond-true (nat_lt g.birth h.birth) (Some g) (Some h) (lt-ltb g.birth h.birth less) in
            subst (IsFirstSoFar places objects other (16 * (n + 1))) (sym is) (
              here.1,
              λ b there below.
                  elim (next_place b n there below) [
                    | inl l ↦ elim (before.1 b there l) [ inl none ↦ inl none | inr above ↦ inr (omega arith) ]
                    | inr e ↦ let same = same_place locals heap memory shape places objects keeps b g.birth there here.1.lies.there (e ∙ sym here.0) in inr (omega arith)
                  ],
            )
        | inr more ↦
            let is : older (Some h) (Some g) ≡ Some h = cond-false (nat_lt g.birth h.birth) (Some g) (Some h) (le-ltb g.birth h.birth more) in
            subst (IsFirstSoFar places objects other (16 * (n + 1))) (sym is) (
              before.0,
              λ b there below.
                  elim (next_place b n there below) [
                    | inl l ↦ before.1 b there l
                    | inr e ↦ let same = same_place locals heap memory shape places objects keeps b g.birth there here.1.lies.there (e ∙ sym here.0) in inr (omega arith)
                  ],
            )
      ]

  -- all objects begin in front of the end of the heap
  pub all_below : (b n : ℕ) → IsThere objects b → end_of memory.heap / 16 ≤ n → places b < 16 * n + 32
  all_below b n there past =
      let range = range_of (object_at objects b).sort in
      let block = own_is_block memory places objects keeps b there in
      let room = (keeps.standing b there).room in
      let within : places b - ((heap_of memory range).base + 32) + block_size (object_at objects b).size ≤ (heap_of memory range).len = block.within in
      let long : 48 ≤ block_size (object_at objects b).size = block.room in
      let ends = ranges_below range in
      omega arith where
        ranges_below : (range : Range) → end_of (heap_of memory range) ≤ end_of memory.heap
        ranges_below Statics = omega (arith, shape.statics_end, shape.locals_end, shape.locals_from, shape.heap_from)
        ranges_below Locals = omega (arith, shape.locals_end, shape.heap_from)
        ranges_below Heap = omega arith

  pub first_none : IsFirstSoFar places objects other (16 * 0) None
  first_none b there below =
      let room = (keeps.standing b there).room in
      let lies = own_lies memory places objects keeps b there in
      absurd (omega (arith, lies.above))

-- The definition's holders

among_there : (queue : List ℕ) (b : ℕ) → Contains queue b → is_among queue b ≡ true
among_there [] b at = absurd (omega (arith, at.1))
among_there (q ∷ queue) b (zero, less, is) = ap (λ t. t || is_among queue b) (eq-eqb q b is)
among_there (q ∷ queue) b (suc i, less, is) =
    elim (cases_Bool (nat_eq q b)) [
      | inl e ↦ ap (λ t. t || is_among queue b) e
      | inr differ ↦ ap (λ t. t || is_among queue b) differ ∙ among_there queue b (i, omega arith, is)
    ]

among_from_is : (queue : List ℕ) (b : ℕ) → is_among queue b ≡ true → Contains queue b
among_from_is [] b e = absurd (cc)
among_from_is (q ∷ queue) b e =
    elim (cases_Bool (nat_eq q b)) [
      | inl same ↦ (0, omega arith, eqb-true q b same)
      | inr differ ↦
          let rest = among_from_is queue b (ap (λ t. t || is_among queue b) (sym differ) ∙ e) in
          (suc rest.0, omega (arith, rest.1), rest.2)
    ]

module _ (other : ℕ) (o : Object) where
  abbrev points : ℕ × Pointer → Bool
  points at = is_pointer_to other at.1

  none_in : (n : ℕ) (ps : List Pointer) → ((k : ℕ) → k < length ps → is_pointer_to other (slice_index_or ps k pointer.Null) ≡ false) → filter points (enumerate_from n ps) ≡ []
  none_in n [] none = refl
  none_in n (p ∷ ps) none =
      cond-false (is_pointer_to other p) ((n, p) ∷ filter points (enumerate_from (n + 1) ps)) (filter points (enumerate_from (n + 1) ps)) (none 0 (omega arith))
      ∙ none_in (n + 1) ps (λ k less. none (suc k) (omega arith))

  first_in : (n : ℕ) (ps : List Pointer) (k : ℕ) → k < length ps → is_pointer_to other (slice_index_or ps k pointer.Null) ≡ true → ((j : ℕ) → j < k → j < length ps → is_pointer_to other (slice_index_or ps j pointer.Null) ≡ false)
      → (rest : List (ℕ × Pointer)) × (filter points (enumerate_from n ps) ≡ (n + k, slice_index_or ps k pointer.Null) ∷ rest)
  first_in n [] k less leads none = absurd (omega arith)
  first_in n (p ∷ ps) zero less leads none =
      let e : n ≡ n + 0 = omega arith in
      (filter points (enumerate_from (n + 1) ps), cond-true (is_pointer_to other p) ((n, p) ∷ filter points (enumerate_from (n + 1) ps)) (filter points (enumerate_from (n + 1) ps)) leads ∙ (λ i. (e i, p) ∷ filter points (enumerate_from (n + 1) ps)))
  first_in n (p ∷ ps) (suc k) less leads none =
      let rest = first_in (n + 1) ps k (omega arith) leads (λ j below inside. none (suc j) (omega arith) (omega arith)) in
      let e : n + 1 + k ≡ n + suc k = omega arith in
      (rest.0, cond-false (is_pointer_to other p) ((n, p) ∷ filter points (enumerate_from (n + 1) ps)) (filter points (enumerate_from (n + 1) ps)) (none 0 (omega arith) (omega arith)) ∙ rest.1 ∙ (λ i. (e i, slice_index_or ps k pointer.Null) ∷ rest.0))

  pub one_none : HasNoneBelow other o (length o.pointers) → inside_one other o ≡ []
  one_none none = ap (map (λ (at : ℕ × Pointer). inside o.sort (slice_index o.slots at.0))) (none_in 0 o.pointers (λ k less. none k less less))

  pub one_first : (offset : ℕ) → IsFirstAt other o offset → (rest : List Holder) × (inside_one other o ≡ inside o.sort offset ∷ rest)
  one_first offset first =
      let found = first_in 0 o.pointers first.number first.inside first.leads first.first in
      let f : ℕ × Pointer → Holder = λ at. inside o.sort (slice_index o.slots at.0) in
      let number : 0 + first.number ≡ first.number = omega arith in
      let offset_is : slice_index o.slots (0 + first.number) ≡ offset = ap (slice_index o.slots) number ∙ first.slot in
      (map f found.0, ap (map f) found.1 ∙ (λ i. inside o.sort (offset_is i) ∷ map f found.0))

none_flat : (f : ℕ × Object → List Holder) (n : ℕ) (objects : List Object) → ((k : ℕ) → k < length objects → f (n + k, object_at objects k) ≡ []) → flat_map f (enumerate_from n objects) ≡ []
none_flat f n [] none = refl
none_flat f n (o ∷ objects) none =
    let here : f (n, o) ≡ [] = (let e : n ≡ n + 0 = omega arith in ap (λ m. f (m, o)) e) ∙ none 0 (omega arith) in
    let rest = none_flat f (n + 1) objects (λ k less. let e : n + 1 + k ≡ n + suc k = omega arith in ap (λ m. f (m, object_at objects k)) e ∙ none (suc k) (omega arith)) in
    λ i. here i ++ rest i

first_flat : (f : ℕ × Object → List Holder) (n : ℕ) (objects : List Object) (k : ℕ) (x : Holder) (rest : List Holder) → k < length objects → f (n + k, object_at objects k) ≡ x ∷ rest → ((j : ℕ) → j < k → f (n + j, object_at objects j) ≡ []) → first_of (flat_map f (enumerate_from n objects)) ≡ Some x
first_flat f n [] k x rest less is none = absurd (omega arith)
first_flat f n (o ∷ objects) zero x rest less is none =
    let here : f (n, o) ≡ x ∷ rest = (let e : n ≡ n + 0 = omega arith in ap (λ m. f (m, o)) e) ∙ is in
    ap (λ l. first_of (l ++ flat_map f (enumerate_from (n + 1) objects))) here
first_flat f n (o ∷ objects) (suc k) x rest less is none =
    let here : f (n, o) ≡ [] = (let e : n ≡ n + 0 = omega arith in ap (λ m. f (m, o)) e) ∙ none 0 (omega arith) in
    ap (λ l. first_of (l ++ flat_map f (enumerate_from (n + 1) objects))) here
    ∙ first_flat f (n + 1) objects k x rest (omega arith) ((let e : n + 1 + k ≡ n + suc k = omega arith in ap (λ m. f (m, object_at objects k)) e) ∙ is)
    (λ j below. (let e : n + 1 + j ≡ n + suc j = omega arith in ap (λ m. f (m, object_at objects j)) e) ∙ none (suc j) (omega arith))

module _ (objects : List Object) (other : ℕ) (queue : List ℕ) (are : AreQueued objects queue) where
  counted_none : (b : ℕ) → (IsThere objects b → HoldsNone objects other b) → counted_inside queue other (b, object_at objects b) ≡ []
  counted_none b none =
      let o = object_at objects b in
      elim (cases_Bool (is_dead o.standing)) [
        | inl dead ↦ cond-true (is_dead o.standing || is_among queue b) [] (inside_one other o) (ap (λ t. t || is_among queue b) dead)
        | inr there ↦ elim (none there) [
          | inl waits ↦ cond-true (is_dead o.standing || is_among queue b) [] (inside_one other o) (ap (λ t. t || is_among queue b) there ∙ among_there queue b ((are.exact b).1 waits))
          | inr nothing ↦
              elim (cases_Bool (is_dead o.standing || is_among queue b)) [
                | inl left ↦ cond-true (is_dead o.standing || is_among queue b) [] (inside_one other o) left
                | inr counts ↦ cond-false (is_dead o.standing || is_among queue b) [] (inside_one other o) counts ∙ one_none other o nothing
              ]
        ]
      ]

  counted_first : (h : Holding) → IsHolding objects other h → (rest : List Holder) × (counted_inside queue other (h.birth, object_at objects h.birth) ≡ holder_of objects h ∷ rest)
  counted_first h is =
      let o = object_at objects h.birth in
      let first = one_first other o h.offset is.first in
      let out : is_among queue h.birth ≡ false =
      elim (cases_Bool (is_among queue h.birth)) [
        | inr out ↦ out
        | inl is_in ↦ let waits = (are.exact h.birth).0 (among_from_is queue h.birth is_in) in let free = is.waits_not in absurd (clash (sym free ∙ waits))
      ] in
      (first.0, cond-false (is_dead o.standing || is_among queue h.birth) [] (inside_one other o) (ap (λ t. t || is_among queue h.birth) is.lies.there ∙ out) ∙ first.1) where
        clash : false ≡ true → ⊥
        clash e = cc

  -- what was found among all objects is the definition's first holder inside objects
  pub first_is : (found : Option Holding) (places : ℕ → ℕ) (end : ℕ) → ((b : ℕ) → IsThere objects b → places b < end + 32) → IsFirstSoFar places objects other end found → option_map (holder_of objects) found ≡ first_of (inside_objects queue other objects)
  first_is None places end all is =
      sym (ap first_of (none_flat (counted_inside queue other) 0 objects (λ k less. let e : 0 + k ≡ k = omega arith in ap (λ m. counted_inside queue other (m, object_at objects k)) e ∙ counted_none k (λ there. is k there (all k there)))))
  first_is (Some h) places end all is =
      let found = counted_first h is.0 in
      let e : 0 + h.birth ≡ h.birth = omega arith in
      sym (first_flat (counted_inside queue other) 0 objects h.birth (holder_of objects h) found.0 (there_below objects h.birth is.0.lies.there) (ap (λ m. counted_inside queue other (m, object_at objects h.birth)) e ∙ found.1)
      (λ j below. let same : 0 + j ≡ j = omega arith in
      ap (λ m. counted_inside queue other (m, object_at objects j)) same
      ∙ counted_none j (λ there. elim (is.1 j there (all j there)) [ inl none ↦ none | inr above ↦ absurd (omega arith) ])))

pub found_inside : (places : ℕ → ℕ) (objects : List Object) (other end : ℕ) (found : Option Holding) → IsFirstSoFar places objects other end found → IfSome found (IsIn objects)
found_inside places objects other end None is = tt
found_inside places objects other end (Some h) is = is.0.lies
