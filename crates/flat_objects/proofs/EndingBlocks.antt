-- Memory locals whose blocks are given back one after another.
use Rattle.std.proofs.Common.{◌≡◌, ◌<◌, ◌≤◌, ◌+◌, ◌-◌, ◌∙◌, inl, inr, ℕ, true, false, not, Some, List, length, get_or, take, refl, sym, ap, subst, arith}
use Rattle.std.specs.Prelude.{All, AllPairs, Contains, map, filter, nat_eq, slice_get, slice_index_or, ◌≢◌}
use Rattle.std.specs.List.{enumerate_from}
use Rattle.std.proofs.lemmas.Bool.{ne_eqb}
use Rattle.std.proofs.lemmas.List.{get_or_default, get_or-map, get_or-take, length-map, length-take-le, take_all}
use Rattle.std.proofs.lemmas.List.Elements.{All-contains, All-map}
use Rattle.std.proofs.lemmas.List.Folds.{list_any_none}
use Rattle.std.proofs.lemmas.Option.{get_or_from_slice_get, slice_get_within}
use Rattle.hs_base.specs.declared.values.Pointer.{Pointer}
use Rattle.hs_base.specs.declared.values.Pointer.TheVariants as pointer
use Rattle.byte_memory.specs.Bytes.{part}
use Rattle.hs_base.specs.Freeing.{ended}
use Rattle.hs_base.specs.Object.{Object, no_object, object_at}
use Rattle.hs_base.specs.Place.{Block, without_block}
use Rattle.heap_blocks.specs.declared.headers.Header.{Header}
use Rattle.heap_blocks.specs.Bytes.{ChangesOnly}
use Rattle.heap_blocks.specs.Heads.{header_at}
use Rattle.heap_blocks.specs.Held.{AreApart, HasBounds, HasHeaders, HaveOwnBirths, HeapModel, Holds, IsBlock, IsHeldObject, IsObject}
use Rattle.flat_objects.specs.Memory.{Memory, Range, Statics, Locals, Heap, IsMemory, SameFrame, heap_of, range_of}
use Rattle.flat_objects.specs.Standing.{IsThere, IsAddressOf}
use Rattle.flat_objects.specs.Keeping.{Keeps, StandsAt, IsHeaderOf, block_of, blocks_of, stands_in}
use Rattle.flat_objects.specs.Counting.{LeadsSomewhere, pointers_in}
use Rattle.flat_objects.specs.EndingSteps.{AreGivenBack, ChangesLocals, MayGiveBack}
use Rattle.flat_objects.proofs.Again.{stands_again}
use Rattle.flat_objects.proofs.Apart.{ranges_apart}
use Rattle.flat_objects.proofs.Blocks.{block_is_held, there_below}
use Rattle.flat_objects.proofs.Changing.{IsOutside, header_kept, part_outside}
use Rattle.flat_objects.proofs.Counted.{pointers_there}
use Rattle.flat_objects.proofs.EndingObjects.{blocks_without}
use Rattle.flat_objects.proofs.HeldBlocks.{all_blocks, has_headers, own_births}
use Rattle.flat_objects.proofs.Members.{related}
use Rattle.flat_objects.proofs.Owners.{range_inside}
use Rattle.flat_objects.proofs.Reached.{are_slots}
use Rattle.flat_objects.proofs.Released.{all_of_flat, among_from, filter_all}
use Rattle.flat_objects.specs.EndingEquations.{ended_more, ended_sort, is_ending, is_left, stays_there}
use Rattle.flat_objects.specs.MemoryEquations.{range_from}

-- an address of a pointer to an object that is left still stands for it
pub stands_ended : (places : ℕ → ℕ) (objects : List Object) (births : List ℕ) (p : Pointer) (a : ℕ) → IsAddressOf places objects p a → LeadsSomewhere (ended objects births) p → IsAddressOf places (ended objects births) p a
stands_ended places objects births pointer.Null a is leads = is
stands_ended places objects births (pointer.At b offset) a is leads = record { there = leads.0; inside = leads.1; address = is.address }

-- a list has an element that is at an index
at_index : (xs : List ℕ) (k d : ℕ) → k < length xs → Contains xs (get_or xs k d)
at_index xs k d less = (k, less, get_or_default xs k (get_or xs k d) d less)

-- none of those before an index is the one at it
not_before : (births : List ℕ) (k : ℕ) → k < length births → AllPairs (λ a b. a ≢ b) births → is_ending (take k births) (get_or births k 0) ≡ false
not_before births k less distinct =
    let b = get_or births k 0 in
    list_any_none (nat_eq b) (take k births)
    (λ j d under. let below : j < k = omega (arith, length-take-le k births (omega arith)) in
    ne_eqb b (get_or (take k births) j d) (λ e. distinct j k 0 below less (sym (e ∙ get_or-take k births j d below ∙ get_or_default births j d 0 (omega arith)))))

-- what is none of all is none of the first
not_ending_before : (births : List ℕ) (k b : ℕ) → k ≤ length births → is_ending births b ≡ false → is_ending (take k births) b ≡ false
not_ending_before births k b less other =
    list_any_none (nat_eq b) (take k births)
    (λ j d under. let below : j < k = omega (arith, length-take-le k births less) in
    ne_eqb b (get_or (take k births) j d)
    (λ e. let is_in = among_from births b (subst (Contains births) (sym (e ∙ get_or-take k births j d below)) (at_index births j d (omega arith))) in
    absurd (cc)))

-- Before the first is given back

module _ (memory : Memory) (places : ℕ → ℕ) (objects : List Object) (births addrs : List ℕ) (may : MayGiveBack memory places objects births addrs) where
  own_leads : (b k : ℕ) → IsThere (ended objects births) b → k < length (object_at objects b).slots → LeadsSomewhere (ended objects births) (slice_index_or (object_at objects b).pointers k pointer.Null)
  own_leads b k there less =
      let o = object_at objects b in
      let left = is_left objects births b there in
      let old = may.keeps.standing b left.there in
      let below : b < length (ended objects births) = there_below (ended objects births) b there in
      let inside : pointers_in (object_at (ended objects births) b) ≡ o.pointers = ap pointers_in left.same ∙ pointers_there o left.there in
      let all = all_of_flat (LeadsSomewhere (ended objects births)) pointers_in (ended objects births) b no_object below may.left in
      subst (All (LeadsSomewhere (ended objects births))) inside all k pointer.Null (omega (arith, old.many))

  pub none_given : AreGivenBack memory places objects births addrs 0
  none_given = record {
    ending = may.ending;
    room = subst (All (λ addr. memory.locals.base + 32 ≤ addr)) (sym may.ending.addresses)
        (All-map (λ addr. memory.locals.base + 32 ≤ addr) places births
        (λ k d less. let own = may.ending.own k d less in
        subst (λ r. (heap_of memory r).base + 32 ≤ places (get_or births k d)) (range_from Locals (object_at objects (get_or births k d)).sort own.sort) (may.keeps.standing (get_or births k d) own.there).room));
    held = may.keeps.held;
    headers = has_headers memory places objects Locals may.keeps;
    standing = λ b there.
        let left = is_left objects births b there in
        let old = may.keeps.standing b left.there in
        subst (StandsAt memory places (ended objects births) b (places b)) (sym left.same)
        (record {
          room = old.room;
          header = old.header;
          slots = old.slots;
          long = old.long;
          bytes = old.bytes;
          many = old.many;
          pointers = λ k less. stands_ended places objects births _ _ (old.pointers k less) (own_leads b k there less);
          marks = old.marks;
        });
  }

-- After the last was

pub all_given : (memory : Memory) (places : ℕ → ℕ) (objects : List Object) (births addrs : List ℕ) (k : ℕ) → length addrs ≤ k → AreGivenBack memory places objects births addrs k → Keeps memory places (ended objects births)
all_given memory places objects births addrs k all given =
    let long : length births ≤ k = omega (arith, ap length given.ending.addresses, length-map births places) in
    let whole : take k births ≡ births = take_all k births long in
    record {
      held = λ range. subst (λ (l : List ℕ). Holds (heap_of memory range) (blocks_of memory places (ended objects l) range)) whole (given.held range);
      standing = given.standing;
    }

-- The next one is

module _ (locals heap : ℕ) (memory : Memory) (shape : IsMemory locals heap memory) (places : ℕ → ℕ) (objects : List Object) (births addrs : List ℕ) (k addr : ℕ) (given : AreGivenBack memory places objects births addrs k) (next : slice_get addrs k ≡ Some addr) where
  abbrev b : ℕ
  b = get_or births k 0

  -- the objects that are left before it
  abbrev now : List Object
  now = ended objects (take k births)

  less : k < length births
  less = omega (arith, slice_get_within addrs k addr next, ap length given.ending.addresses, length-map births places)

  addr_is : addr ≡ places b
  addr_is = sym (get_or_from_slice_get addrs k addr 0 next) ∙ ap (λ l. get_or l k 0) given.ending.addresses ∙ get_or-map places births k 0 0 less

  b_there : IsThere now b
  b_there = stays_there objects (take k births) b (given.ending.own k 0 less).there (not_before births k less given.ending.distinct)

  b_sort : range_of (object_at now b).sort ≡ Locals
  b_sort = ap range_of (ended_sort objects (take k births) b) ∙ range_from Locals (object_at objects b).sort (given.ending.own k 0 less).sort

  abbrev own : Block
  own = block_of places memory.locals.base (b, object_at now b)

  own_held : Contains (blocks_of memory places now Locals) own
  own_held =
      subst (λ (r : Range). Contains (blocks_of memory places now r) (block_of places (heap_of memory r).base (b, object_at now b))) b_sort (block_is_held memory places now b b_there)

  b_room : memory.locals.base + 32 ≤ places b
  b_room = subst (λ a. memory.locals.base + 32 ≤ a) (get_or_from_slice_get addrs k addr 0 next ∙ addr_is) (given.room k 0 (slice_get_within addrs k addr next))

  object : IsObject memory.locals memory.bytes addr (blocks_of memory places now Locals) own
  object = record { holds = given.held Locals; headers = given.headers; contains = own_held; address = omega (arith, addr_is, b_room) }

  pub held_object : IsHeldObject memory.locals memory.bytes addr
  held_object = (blocks_of memory places now Locals, own, object)

  own_is_block : IsBlock memory.locals.len own
  own_is_block = All-contains (IsBlock memory.locals.len) (blocks_of memory places now Locals) own (given.held Locals).blocks own_held

  -- its block is the only one that goes
  blocks_next : (range : Range) → blocks_of memory places (ended objects (take (k + 1) births)) range ≡ without_block (blocks_of memory places now range) b
  blocks_next range = ap (λ l. blocks_of memory places l range) (ended_more objects births k less) ∙ blocks_without memory places now b range

  others_stay : (range : Range) → (range ≡ Locals → ⊥) → without_block (blocks_of memory places now range) b ≡ blocks_of memory places now range
  others_stay range other =
      filter_all (λ (x : Block). not (nat_eq x.birth b)) (blocks_of memory places now range)
      (all_blocks (λ (x : Block). not (nat_eq x.birth b) ≡ true) memory places now range
      (λ c there own. ap not (ne_eqb c b (λ e. other (sym own ∙ ap (λ x. range_of (object_at now x).sort) e ∙ b_sort)))))

  -- An object that stays when all end

  module _ (c : ℕ) (there : IsThere (ended objects births) c) where
    abbrev o : Object
    o = object_at (ended objects births) c

    c_there : IsThere now c
    c_there =
        let left = is_left objects births c there in
        stays_there objects (take k births) c left.there (not_ending_before births k c (omega (arith, less)) left.other)

    c_differs : c ≡ b → ⊥
    c_differs e =
        let left = is_left objects births c there in
        let is_in = among_from births c (subst (Contains births) (sym e) (at_index births k 0 less)) in
        absurd (clash (sym left.other ∙ is_in)) where
          clash : false ≡ true → ⊥
          clash e = cc

    c_same : object_at now c ≡ o
    c_same =
        let left = is_left objects births c there in
        (is_left objects (take k births) c c_there).same ∙ sym left.same

    abbrev c_range : Range
    c_range = range_of o.sort

    abbrev c_block : Block
    c_block = block_of places (heap_of memory c_range).base (c, o)

    c_held : Contains (blocks_of memory places now c_range) c_block
    c_held =
        subst (λ (x : Object). Contains (blocks_of memory places now (range_of x.sort)) (block_of places (heap_of memory (range_of x.sort)).base (c, x))) c_same (block_is_held memory places now c c_there)

    c_room : (heap_of memory c_range).base + 32 ≤ places c
    c_room = (given.standing c there).room

    c_is_block : IsBlock (heap_of memory c_range).len c_block
    c_is_block = All-contains (IsBlock (heap_of memory c_range).len) (blocks_of memory places now c_range) c_block (given.held c_range).blocks c_held

    pub c_inside : places c + o.size < length memory.bytes
    c_inside = omega (arith, c_room, c_is_block.within, range_inside locals heap memory shape c_range)

    -- its header and its bytes are outside the block
    c_outside : IsOutside (places c - 32) (o.size + 32) (memory.locals.base + own.place) own.length
    c_outside =
        elim (ranges_apart locals heap memory shape c_range Locals) [
          | inr (inl h) ↦ inl (omega (arith, c_room, c_is_block.within))
          | inr (inr h) ↦ inr (omega (arith, c_room, own_is_block.within))
          | inl same ↦
              let base : (heap_of memory c_range).base ≡ memory.locals.base = ap (λ r. (heap_of memory r).base) same in
              let held_c = subst (λ (r : Range). Contains (blocks_of memory places now r) c_block) same c_held in
              elim (related AreApart (blocks_of memory places now Locals) c_block own (given.held Locals).apart held_c own_held (λ e. c_differs (ap (λ (x : Block). x.birth) e))) [
                | inl apart ↦ elim apart [ inl h ↦ inl (omega (arith, c_room)) | inr h ↦ inr (omega (arith, c_room)) ]
                | inr apart ↦ elim apart [ inl h ↦ inr (omega (arith, c_room)) | inr h ↦ inl (omega (arith, c_room)) ]
              ]
        ]

  -- After the block was given back

  module _ (after : HeapModel) (bytes : List ℕ) (bounds : HasBounds memory.locals.base memory.locals.len after)
      (holds : (held : List Block) (x : Block) → IsObject memory.locals memory.bytes addr held x → HaveOwnBirths held → Holds after (without_block held x.birth))
      (has : (held : List Block) (x : Block) → IsObject memory.locals memory.bytes addr held x → HasHeaders after.base bytes (without_block held x.birth))
      (outside : (held : List Block) (x : Block) → IsObject memory.locals memory.bytes addr held x → ChangesOnly memory.bytes bytes (memory.locals.base + x.place) x.length) where
    abbrev pub given_memory : Memory
    given_memory = record memory { locals = after; bytes = bytes }

    same_base : (range : Range) → (heap_of given_memory range).base ≡ (heap_of memory range).base
    same_base Statics = refl
    same_base Locals = bounds.0
    same_base Heap = refl

    blocks_in_next : (range : Range) → blocks_of given_memory places (ended objects (take (k + 1) births)) range ≡ without_block (blocks_of memory places now range) b
    blocks_in_next range =
        ap (λ base. map (block_of places base) (filter (stands_in range) (enumerate_from 0 (ended objects (take (k + 1) births))))) (same_base range) ∙ blocks_next range

    changes : ChangesOnly memory.bytes bytes (memory.locals.base + own.place) own.length
    changes = outside (blocks_of memory places now Locals) own object

    held_next : (range : Range) → Holds (heap_of given_memory range) (blocks_of given_memory places (ended objects (take (k + 1) births)) range)
    held_next Statics = subst (Holds memory.statics) (sym (blocks_in_next Statics ∙ others_stay Statics (λ e. cc))) (given.held Statics)
    held_next Heap = subst (Holds memory.heap) (sym (blocks_in_next Heap ∙ others_stay Heap (λ e. cc))) (given.held Heap)
    held_next Locals = subst (Holds after) (sym (blocks_in_next Locals)) (holds (blocks_of memory places now Locals) own object (own_births memory places now Locals))

    stays_same : (c : ℕ) (there : IsThere (ended objects births) c) (at n : ℕ) → places c - 32 ≤ at → at + n ≤ places c - 32 + ((object_at (ended objects births) c).size + 32) → part bytes at n ≡ part memory.bytes at n
    stays_same c there at n low high =
        elim (part_outside (places c - 32) ((object_at (ended objects births) c).size + 32) (memory.locals.base + own.place) own.length at n (c_outside c there) low high) [
          | inl h ↦ changes.below at n h
          | inr h ↦ changes.above at n h
        ]

    stands_next : (c : ℕ) → IsThere (ended objects births) c → StandsAt given_memory places (ended objects births) c (places c) (object_at (ended objects births) c)
    stands_next c there =
        let old = given.standing c there in
        let o = object_at (ended objects births) c in
        let room = old.room in
        let head : IsOutside (places c - 32) 32 (memory.locals.base + own.place) own.length = (elim (c_outside c there) [ inl h ↦ inl (omega arith) | inr h ↦ inr (omega arith) ]) in
        let header : header_at bytes (places c - 32) ≡ header_at memory.bytes (places c - 32) = header_kept memory.bytes bytes (memory.locals.base + own.place) own.length (places c - 32) changes head in
        stands_again memory given_memory places (ended objects births) (ended objects births) c o o.standing old (same_base (range_of o.sort)) refl refl changes.long
        (subst (λ (h : Header). IsHeaderOf h c o) (sym header) old.header) (ap (λ (h : Header). h.layout) header)
        (let inside = c_inside c there in omega arith) (λ at n low high. stays_same c there at n (omega arith) (omega arith)) (are_slots locals heap memory _ o shape old.slots) (λ j a below is. is)

    pub given_next : AreGivenBack given_memory places objects births addrs (k + 1)
    given_next = record {
      ending = given.ending;
      room = subst (λ base. All (λ a. base + 32 ≤ a) addrs) (sym bounds.0) given.room;
      held = held_next;
      headers = subst (HasHeaders after.base bytes) (sym (blocks_in_next Locals)) (has (blocks_of memory places now Locals) own object);
      standing = stands_next;
    }

-- What else changes: nothing

pub changes_none : (memory : Memory) → ChangesLocals memory memory
changes_none memory = record {
  others = refl;
  bounds = (refl, refl);
  bytes = record { long = refl; below = λ from n less. refl; above = λ from n less. refl };
}

pub changes_again : (one two three : Memory) → ChangesLocals one two → ChangesLocals two three → ChangesLocals one three
changes_again one two three first second =
    let base = first.bounds.0 in
    let len = first.bounds.1 in
    record {
      others = second.others ∙ ap (λ (m : Memory). record m { locals = three.locals; bytes = three.bytes }) first.others;
      bounds = (second.bounds.0 ∙ base, second.bounds.1 ∙ len);
      bytes = record {
        long = second.bytes.long ∙ first.bytes.long;
        below = λ from n less. second.bytes.below from n (omega arith) ∙ first.bytes.below from n less;
        above = λ from n less. second.bytes.above from n (omega arith) ∙ first.bytes.above from n less;
      };
    }

pub changes_frame : (before after : Memory) → ChangesLocals before after → SameFrame before after
changes_frame before after changes = record {
  statics = (ap (λ (m : Memory). m.statics.base) changes.others, ap (λ (m : Memory). m.statics.len) changes.others);
  locals = changes.bounds;
  heap = (ap (λ (m : Memory). m.heap.base) changes.others, ap (λ (m : Memory). m.heap.len) changes.others);
  long = changes.bytes.long;
  most = ap (λ (m : Memory). m.counts.most) changes.others;
  forms = ap (λ (m : Memory). m.forms) changes.others;
}
