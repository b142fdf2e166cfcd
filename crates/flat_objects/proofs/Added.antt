-- What a memory keeps after an object was placed.
use Rattle.std.proofs.Common.{◌≡◌, ◌<◌, ◌≤◌, ◌+◌, ◌*◌, ◌-◌, ◌⊎◌, inl, inr, ℕ, zero, suc, Bool, true, false, cond, not, ◌/◌, List, [], ◌∷◌, ◌++◌, length, get_or, drop, replicate, sym, ap, ◌∙◌, refl, subst, arith, length-append}
use Rattle.std.specs.Prelude.{map, filter, Contains, slice_index, slice_index_or, nat_eq}
use Rattle.std.specs.List.{enumerate_from, flat_map, range_with_len}
use Rattle.std.proofs.Math.Nat.{div_self}
use Rattle.std.proofs.lemmas.Bool.{cases_lt, cond-true, cond-false, eq-eqb, ne_eqb, and_left, and_from, not_from_false}
use Rattle.std.proofs.lemmas.List.{append-nil, get_or_append_left, get_or_at, get_or_default, get_or-replicate, length-replicate, get_or-take, get_or-drop}
use Rattle.std.proofs.lemmas.List.Elements.{All-contains}
use Rattle.hs_base.specs.declared.values.Pointer.{Pointer}
use Rattle.hs_base.specs.declared.values.Pointer.TheVariants as pointer
use Rattle.byte_memory.specs.Bytes.{word, part}
use Rattle.hs_base.specs.Object as object
use Rattle.hs_base.specs.Object.{Object, Sort, Standing, is_dead, no_object, object_at}
use Rattle.hs_base.specs.Place.{Block, block_size}
use Rattle.byte_memory.specs.BytesEquations.{word_none, word_more}
use Rattle.c_types.specs.Layouts.{AreSlots, moved}
use Rattle.adjusters.specs.ObjectSlots.{Element, object_slots}
use Rattle.heap_blocks.specs.declared.headers.Header.{Header}
use Rattle.heap_blocks.specs.Bytes.{ChangesOnly}
use Rattle.heap_blocks.specs.Heads.{header_at}
use Rattle.heap_blocks.specs.Held.{HeapModel, HasBounds, Holds, IsBlock, AreApart}
use Rattle.byte_marks.specs.Marks.{ChangesMarks, IsMarked, MarksModel}
use Rattle.object_meaning.specs.objects.Making.{blank}
use Rattle.flat_objects.specs.Memory.{Memory, Range, Statics, Locals, Heap, IsMemory, heap_of, is_of, range_of}
use Rattle.flat_objects.specs.Standing.{IsThere, IsAddressOf}
use Rattle.flat_objects.specs.Keeping.{Keeps, StandsAt, IsHeaderOf, HasSlots, block_of, blocks_of, stands_in}
use Rattle.flat_objects.specs.Adding.{with_place, IsAdded}
use Rattle.flat_objects.proofs.Apart.{ranges_apart}
use Rattle.flat_objects.proofs.Ascending.{Ascend, slot_ends}
use Rattle.flat_objects.proofs.Blocks.{there_below, own_block, block_is_held, of_own_range}
use Rattle.flat_objects.proofs.Changing.{IsOutside, word_kept, byte_kept, header_kept, part_outside}
use Rattle.flat_objects.proofs.Members.{related}
use Rattle.flat_objects.proofs.Owners.{own_range, own_inside, own_lies, range_inside}
use Rattle.flat_objects.proofs.Reached.{are_slots}

-- An object whose bytes did not change

stands_kept : (memory after : Memory) (places new_places : ℕ → ℕ) (objects new_objects : List Object) (birth addr : ℕ) (o : Object) (start long : ℕ) → StandsAt memory places objects birth addr o → ChangesOnly memory.bytes after.bytes start long → IsOutside (addr - 32) (o.size + 32) start long
    → after.forms ≡ memory.forms → (heap_of after (range_of o.sort)).base ≡ (heap_of memory (range_of o.sort)).base → addr + o.size ≤ length memory.bytes → Ascend 0 o.size o.slots
    → ((p : Pointer) (a : ℕ) → IsAddressOf places objects p a → IsAddressOf new_places new_objects p a) → IsMarked after.marks addr o.size o.slots → StandsAt after new_places new_objects birth addr o
stands_kept memory after places new_places objects new_objects birth addr o start long old changes out forms base inside slots addresses marks =
    let header = header_kept memory.bytes after.bytes start long (addr - 32) changes (part_outside (addr - 32) (o.size + 32) start long (addr - 32) 32 out (omega arith) (omega arith)) in
    let here = λ (at n : ℕ) (low : addr ≤ at) (high : at + n ≤ addr + o.size). part_outside (addr - 32) (o.size + 32) start long at n out (omega arith) (omega (arith, old.room)) in
    record {
      room = omega (arith, old.room);
      header = subst (λ (h : Header). IsHeaderOf h birth o) (sym header) old.header;
      slots = subst (λ (h : Header). HasSlots after.forms h.layout o) (sym header) (subst (λ (f : List Element). HasSlots f (header_at memory.bytes (addr - 32)).layout o) (sym forms) old.slots);
      long = old.long;
      bytes = λ k less clear. byte_kept memory.bytes after.bytes start long (addr + k) changes (here (addr + k) 1 (omega arith) (omega arith)) (omega arith) ∙ old.bytes k less clear;
      many = old.many;
      pointers = λ k less.
          let slot = slice_index o.slots k in
          let ends = slot_ends 0 o.size o.slots slot slots (k, less, get_or_default o.slots k slot 0 less) in
          let same = word_kept memory.bytes after.bytes start long (addr + slot) 4 changes (here (addr + slot) 4 (omega arith) (omega arith)) in
          subst (IsAddressOf new_places new_objects (slice_index_or o.pointers k pointer.Null)) (sym same)
          (addresses (slice_index_or o.pointers k pointer.Null) (word memory.bytes (addr + slot) 4) (old.pointers k less));
      marks = marks;
    }

-- the marks of an object stay where another one is marked outside its block
marks_kept : (before after : MarksModel) (place size : ℕ) (slots : List ℕ) (addr new_size : ℕ) → IsMarked before place size slots → ChangesMarks before after addr new_size → 32 ≤ place → 32 ≤ addr → IsOutside (place - 32) (size + 32) (addr - 32) (block_size new_size) → IsMarked after place size slots
marks_kept before after place size slots addr new_size old changes low new_low (inl h) =
    record {
      bytes = record { bytes = λ k less. changes.bytes.below (place + k) (omega arith) ∙ old.bytes.bytes k less; behind = changes.bytes.below (place + size) (omega arith) ∙ old.bytes.behind };
      end = λ k less. changes.ends.below ((place + k) / 16) (omega arith) ∙ old.end k less;
    }
marks_kept before after place size slots addr new_size old changes low new_low (inr h) =
    record {
      bytes = record { bytes = λ k less. changes.bytes.above (place + k) (omega arith) ∙ old.bytes.bytes k less; behind = changes.bytes.above (place + size) (omega arith) ∙ old.bytes.behind };
      end = λ k less. changes.ends.above ((place + k) / 16) (omega arith) ∙ old.end k less;
    }

-- One place more

pub place_same : (places : ℕ → ℕ) (birth addr : ℕ) → with_place places birth addr birth ≡ addr
place_same places birth addr = cond-true (nat_eq birth birth) addr (places birth) (eq-eqb birth birth refl)

pub place_other : (places : ℕ → ℕ) (birth addr other : ℕ) → (other ≡ birth → ⊥) → with_place places birth addr other ≡ places other
place_other places birth addr other differ = cond-false (nat_eq other birth) addr (places other) (ne_eqb other birth differ)

module _ (objects : List Object) (new : Object) where
  pub at_old : (birth : ℕ) → birth < length objects → object_at (objects ++ new ∷ []) birth ≡ object_at objects birth
  at_old birth below = get_or_append_left objects (new ∷ []) no_object birth below

  pub at_new : object_at (objects ++ new ∷ []) (length objects) ≡ new
  at_new = get_or_at objects new [] no_object (length objects) refl

  pub old_or_new : (birth : ℕ) → IsThere (objects ++ new ∷ []) birth → (birth < length objects) ⊎ (birth ≡ length objects)
  old_or_new birth there =
      let below = there_below (objects ++ new ∷ []) birth there in
      elim (cases_lt birth (length objects)) [ inl h ↦ inl h | inr h ↦ inr (omega (arith, length-append objects (new ∷ []))) ]

  pub addresses_old : (places : ℕ → ℕ) (addr : ℕ) (p : Pointer) (a : ℕ) → IsAddressOf places objects p a → IsAddressOf (with_place places (length objects) addr) (objects ++ new ∷ []) p a
  addresses_old places addr pointer.Null a h = h
  addresses_old places addr (pointer.At birth offset) a h =
      let below = there_below objects birth h.there in
      let same = at_old birth below in
      let place = place_other places (length objects) addr birth (λ e. omega arith) in
      record {
        there = ap (λ (o : Object). is_dead o.standing) same ∙ h.there;
        inside = omega (arith, h.inside, ap (λ (o : Object). o.size) same);
        address = h.address ∙ ap (λ n. n + offset) (sym place);
      }

-- The blocks

two_ways : {X Y : Type 0} (f g : X → Y) (t : Bool) (x : X) (l m : List X) (more : List Y) → f x ≡ g x → map f l ≡ map g m ++ more → map f (cond t (x ∷ l) l) ≡ map g (cond t (x ∷ m) m) ++ more
two_ways f g true x l m more same rest = λ i. same i ∷ rest i
two_ways f g false x l m more same rest = rest

blocks_more : (places new_places : ℕ → ℕ) (base : ℕ) (p : ℕ × Object → Bool) (new : Object) (n : ℕ) (objects : List Object) → ((birth : ℕ) → birth < n + length objects → new_places birth ≡ places birth)
    → map (block_of new_places base) (filter p (enumerate_from n (objects ++ new ∷ []))) ≡ map (block_of places base) (filter p (enumerate_from n objects)) ++ map (block_of new_places base) (filter p ((n + length objects, new) ∷ []))
blocks_more places new_places base p new n [] same =
    let e : n ≡ n + 0 = omega arith in ap (λ m. map (block_of new_places base) (filter p ((m, new) ∷ []))) e
blocks_more places new_places base p new n (o ∷ objects) same =
    let place : new_places n ≡ places n = same n (omega arith) in
    let block : block_of new_places base (n, o) ≡ block_of places base (n, o) = ap (λ a. let b : Block = record { birth = n; place = a - (base + 32); length = block_size o.size } in b) place in
    let count : n + 1 + length objects ≡ n + suc (length objects) = omega arith in
    two_ways (block_of new_places base) (block_of places base) (p (n, o)) (n, o) (filter p (enumerate_from (n + 1) (objects ++ new ∷ []))) (filter p (enumerate_from (n + 1) objects))
    (map (block_of new_places base) (filter p ((n + suc (length objects), new) ∷ []))) block
    (blocks_more places new_places base p new (n + 1) objects (λ birth below. same birth (omega arith)) ∙ ap (λ m. map (block_of places base) (filter p (enumerate_from (n + 1) objects)) ++ map (block_of new_places base) (filter p ((m, new) ∷ []))) count)

-- Zeros

byte_zero : (bytes : List ℕ) (addr size k : ℕ) → part bytes addr size ≡ replicate size 0 → k < size → get_or bytes (addr + k) 0 ≡ 0
unfolding part
byte_zero bytes addr size k zeros less =
    sym (get_or-drop addr bytes k 0) ∙ sym (get_or-take size (drop addr bytes) k 0 less) ∙ ap (λ l. get_or l k 0) zeros ∙ get_or-replicate size k 0 0 less

pub word_zero : (bytes : List ℕ) (at n : ℕ) → at + n ≤ length bytes → ((k : ℕ) → k < n → get_or bytes (at + k) 0 ≡ 0) → word bytes at n ≡ 0
word_zero bytes at zero inside zeros = word_none bytes at
word_zero bytes at (suc n) inside zeros =
    let first : get_or bytes at 0 ≡ 0 = (let e : at ≡ at + 0 = omega arith in ap (λ k. get_or bytes k 0) e) ∙ zeros 0 (omega arith) in
    let rest = word_zero bytes (at + 1) n (omega arith) (λ k less. let e : at + 1 + k ≡ at + (k + 1) = omega arith in ap (λ m. get_or bytes m 0) e ∙ zeros (k + 1) (omega arith)) in
    let all = word_more bytes at (at + 1) n refl (omega arith) in
    omega arith

-- A placement

-- a live object whose bytes are 0 and whose pointers are null
pub record IsBlank (o : Object) : Type 0 where
  pub there : is_dead o.standing ≡ false
  pub long : length o.bytes ≡ o.size
  pub bytes : (k : ℕ) → k < o.size → slice_index o.bytes k ≡ 0
  pub many : length o.pointers ≡ length o.slots
  pub pointers : (k : ℕ) → k < length o.slots → slice_index_or o.pointers k pointer.Null ≡ pointer.Null

-- the object was placed in its range, at a place there
pub record IsPlacement (memory next : Memory) (places : ℕ → ℕ) (objects : List Object) (new : Object) (place addr : ℕ) : Type 0 where
  pub forms : next.forms ≡ memory.forms
  pub counts : next.counts ≡ memory.counts
  pub scopes : next.scopes ≡ memory.scopes
  pub others : (range : Range) → (range_of new.sort ≡ range → ⊥) → heap_of next range ≡ heap_of memory range
  pub bounds : HasBounds (heap_of memory (range_of new.sort)).base (heap_of memory (range_of new.sort)).len (heap_of next (range_of new.sort))
  pub address : addr ≡ (heap_of memory (range_of new.sort)).base + place + 32
  pub holds : Holds (heap_of next (range_of new.sort)) (blocks_of memory places objects (range_of new.sort) ++ record { birth = length objects; place = place; length = block_size new.size } ∷ [])
  pub changes : ChangesOnly memory.bytes next.bytes (addr - 32) (block_size new.size)
  pub header : IsHeaderOf (header_at next.bytes (addr - 32)) (length objects) new
  pub slots : HasSlots memory.forms (header_at next.bytes (addr - 32)).layout new
  pub zero : part next.bytes addr new.size ≡ replicate new.size 0
  pub marks : ChangesMarks memory.marks next.marks addr new.size
  pub marked : IsMarked next.marks addr new.size new.slots

pub contains_left : {X : Type 0} (xs ys : List X) (x : X) → Contains xs x → Contains (xs ++ ys) x
contains_left xs ys x at = (at.0, omega (arith, at.1, length-append xs ys), get_or_append_left xs ys x at.0 at.1 ∙ at.2)

pub contains_last : {X : Type 0} (xs : List X) (x : X) → Contains (xs ++ x ∷ []) x
contains_last xs x = (length xs, omega (arith, length-append xs (x ∷ [])), get_or_at xs x [] x (length xs) refl)

same_or_not : (r s : Range) → (r ≡ s) ⊎ (r ≡ s → ⊥)
same_or_not Statics Statics = inl refl
same_or_not Statics Locals = inr (λ e. cc)
same_or_not Statics Heap = inr (λ e. cc)
same_or_not Locals Statics = inr (λ e. cc)
same_or_not Locals Locals = inl refl
same_or_not Locals Heap = inr (λ e. cc)
same_or_not Heap Statics = inr (λ e. cc)
same_or_not Heap Locals = inr (λ e. cc)
same_or_not Heap Heap = inl refl

not_of : (range : Range) (sort : Sort) → (range_of sort ≡ range → ⊥) → is_of range sort ≡ false
not_of Statics (object.Static index) differ = absurd (differ refl)
not_of Statics (object.Local func index) differ = refl
not_of Statics (object.Heap line) differ = refl
not_of Locals (object.Static index) differ = refl
not_of Locals (object.Local func index) differ = absurd (differ refl)
not_of Locals (object.Heap line) differ = refl
not_of Heap (object.Static index) differ = refl
not_of Heap (object.Local func index) differ = refl
not_of Heap (object.Heap line) differ = absurd (differ refl)

module _ (locals heap : ℕ) (memory next : Memory) (shape : IsMemory locals heap memory) (places : ℕ → ℕ) (objects : List Object) (keeps : Keeps memory places objects) (new : Object) (blank : IsBlank new) (place addr : ℕ) (placed : IsPlacement memory next places objects new place addr) where
  abbrev new_places : ℕ → ℕ
  new_places = with_place places (length objects) addr

  abbrev new_block : Block
  new_block = record { birth = length objects; place = place; length = block_size new.size }

  addresses : (p : Pointer) (a : ℕ) → IsAddressOf places objects p a → IsAddressOf new_places (objects ++ new ∷ []) p a
  addresses = addresses_old objects new places addr

  pub same_base : (range : Range) → (heap_of next range).base ≡ (heap_of memory range).base
  same_base range =
      elim (same_or_not (range_of new.sort) range) [
        | inl e ↦ subst (λ (r : Range). (heap_of next r).base ≡ (heap_of memory r).base) e placed.bounds.0
        | inr differ ↦ ap (λ (h : HeapModel). h.base) (placed.others range differ)
      ]

  -- the blocks
  pub blocks_joined : (range : Range) → blocks_of next new_places (objects ++ new ∷ []) range ≡ blocks_of memory places objects range ++ map (block_of new_places (heap_of memory range).base) (filter (stands_in range) ((0 + length objects, new) ∷ []))
  blocks_joined range =
      ap (λ b. map (block_of new_places b) (filter (stands_in range) (enumerate_from 0 (objects ++ new ∷ [])))) (same_base range)
      ∙ blocks_more places new_places (heap_of memory range).base (stands_in range) new 0 objects (λ birth below. place_other places (length objects) addr birth (λ e. omega arith))

  last_block : map (block_of new_places (heap_of memory (range_of new.sort)).base) (filter (stands_in (range_of new.sort)) ((0 + length objects, new) ∷ [])) ≡ new_block ∷ []
  last_block =
      let base = (heap_of memory (range_of new.sort)).base in
      let stands : stands_in (range_of new.sort) (0 + length objects, new) ≡ true =
      and_from (is_of (range_of new.sort) new.sort) (not (is_dead new.standing)) (of_own_range new.sort) (not_from_false (is_dead new.standing) blank.there) in
      let birth : 0 + length objects ≡ length objects = omega arith in
      let at : new_places (0 + length objects) - (base + 32) ≡ place = omega (arith, placed.address, ap new_places birth, place_same places (length objects) addr) in
      ap (map (block_of new_places base)) (cond-true (stands_in (range_of new.sort) (0 + length objects, new)) ((0 + length objects, new) ∷ []) [] stands)
      ∙ (λ i. record { birth = birth i; place = at i; length = block_size new.size } ∷ [])

  no_block : (range : Range) → (range_of new.sort ≡ range → ⊥) → map (block_of new_places (heap_of memory range).base) (filter (stands_in range) ((0 + length objects, new) ∷ [])) ≡ []
  no_block range differ =
      ap (map (block_of new_places (heap_of memory range).base))
      (cond-false (stands_in range (0 + length objects, new)) ((0 + length objects, new) ∷ []) [] (and_left (is_of range new.sort) (not (is_dead new.standing)) (not_of range new.sort differ)))

  held_own : Holds (heap_of next (range_of new.sort)) (blocks_of next new_places (objects ++ new ∷ []) (range_of new.sort))
  held_own =
      subst (Holds (heap_of next (range_of new.sort))) (sym (blocks_joined (range_of new.sort) ∙ ap (λ l. blocks_of memory places objects (range_of new.sort) ++ l) last_block)) placed.holds

  held_all : (range : Range) → Holds (heap_of next range) (blocks_of next new_places (objects ++ new ∷ []) range)
  held_all range =
      elim (same_or_not (range_of new.sort) range) [
        | inl e ↦ subst (λ (r : Range). Holds (heap_of next r) (blocks_of next new_places (objects ++ new ∷ []) r)) e held_own
        | inr differ ↦
            let blocks : blocks_of next new_places (objects ++ new ∷ []) range ≡ blocks_of memory places objects range =
            blocks_joined range ∙ ap (λ l. blocks_of memory places objects range ++ l) (no_block range differ) ∙ append-nil (blocks_of memory places objects range) in
            subst (λ (h : HeapModel). Holds h (blocks_of next new_places (objects ++ new ∷ []) range)) (sym (placed.others range differ)) (subst (Holds (heap_of memory range)) (sym blocks) (keeps.held range))
      ]

  -- the same seen from the memory behind
  blocks_behind : (range : Range) → blocks_of next new_places (objects ++ new ∷ []) range ≡ blocks_of next places objects range ++ map (block_of new_places (heap_of next range).base) (filter (stands_in range) ((length objects, new) ∷ []))
  blocks_behind range =
      let birth : 0 + length objects ≡ length objects = omega arith in
      blocks_joined range
      ∙ ap (λ n. blocks_of memory places objects range ++ map (block_of new_places (heap_of memory range).base) (filter (stands_in range) ((n, new) ∷ []))) birth
      ∙ ap (λ b. map (block_of places b) (filter (stands_in range) (enumerate_from 0 objects)) ++ map (block_of new_places b) (filter (stands_in range) ((length objects, new) ∷ []))) (sym (same_base range))

  -- the new block and the old objects
  new_within : place + block_size new.size ≤ (heap_of memory (range_of new.sort)).len
  new_within =
      let blocks = blocks_of memory places objects (range_of new.sort) in
      let block : IsBlock (heap_of next (range_of new.sort)).len new_block = All-contains (IsBlock (heap_of next (range_of new.sort)).len) (blocks ++ new_block ∷ []) new_block placed.holds.blocks (contains_last blocks new_block) in
      omega (arith, block.within, placed.bounds.1)

  apart_from : (birth : ℕ) → IsThere objects birth → AreApart (own_block memory places objects birth) new_block → range_of (object_at objects birth).sort ≡ range_of new.sort → IsOutside (places birth - 32) ((object_at objects birth).size + 32) (addr - 32) (block_size new.size)
  apart_from birth there (inl h) same =
      let base : (own_range memory objects birth).base ≡ (heap_of memory (range_of new.sort)).base = ap (λ r. (heap_of memory r).base) same in
      inl (omega (arith, (keeps.standing birth there).room, placed.address))
  apart_from birth there (inr h) same =
      let base : (own_range memory objects birth).base ≡ (heap_of memory (range_of new.sort)).base = ap (λ r. (heap_of memory r).base) same in
      inr (omega (arith, (keeps.standing birth there).room, placed.address))

  pub old_outside : (birth : ℕ) → IsThere objects birth → IsOutside (places birth - 32) ((object_at objects birth).size + 32) (addr - 32) (block_size new.size)
  old_outside birth there =
      let below = there_below objects birth there in
      let lies = own_lies memory places objects keeps birth there in
      let within = new_within in
      let blocks = blocks_of memory places objects (range_of new.sort) in
      elim (ranges_apart locals heap memory shape (range_of (object_at objects birth).sort) (range_of new.sort)) [
        | inr (inl h) ↦ inl (omega (arith, lies.below, lies.above, placed.address))
        | inr (inr h) ↦ inr (omega (arith, lies.above, placed.address))
        | inl same ↦
            let held = subst (λ (r : Range). Contains (blocks_of memory places objects r) (own_block memory places objects birth)) same (block_is_held memory places objects birth there) in
            elim (related AreApart (blocks ++ new_block ∷ []) (own_block memory places objects birth) new_block placed.holds.apart (contains_left blocks (new_block ∷ []) (own_block memory places objects birth) held) (contains_last blocks new_block)
            (λ e. let same_birth : birth ≡ length objects = ap (λ (b : Block). b.birth) e in omega arith)) [
              | inl h ↦ apart_from birth there h same
              | inr (inl h) ↦ apart_from birth there (inr h) same
              | inr (inr h) ↦ apart_from birth there (inl h) same
            ]
      ]

  -- the objects
  old_stands : (birth : ℕ) → IsThere objects birth → StandsAt next new_places (objects ++ new ∷ []) birth (places birth) (object_at objects birth)
  old_stands birth there =
      let o = object_at objects birth in
      let old = keeps.standing birth there in
      stands_kept memory next places new_places objects (objects ++ new ∷ []) birth (places birth) o (addr - 32) (block_size new.size) old placed.changes (old_outside birth there) placed.forms (same_base (range_of o.sort))
      (omega (arith, own_inside memory places objects keeps birth there locals heap shape)) (are_slots locals heap memory (header_at memory.bytes (places birth - 32)).layout o shape old.slots) addresses
      (marks_kept memory.marks next.marks (places birth) o.size o.slots addr new.size old.marks placed.marks (omega (arith, old.room)) (omega (arith, placed.address)) (old_outside birth there))

  new_inside : addr + new.size ≤ length next.bytes
  new_inside =
      let within = new_within in
      let inside = range_inside locals heap memory shape (range_of new.sort) in
      omega (arith, placed.address, placed.changes.long)

  new_stands : StandsAt next new_places (objects ++ new ∷ []) (length objects) addr new
  new_stands =
      let inside = new_inside in
      let slots = are_slots locals heap memory (header_at next.bytes (addr - 32)).layout new shape placed.slots in
      record {
        room = omega (arith, placed.address, same_base (range_of new.sort));
        header = placed.header;
        slots = subst (λ (f : List Element). HasSlots f (header_at next.bytes (addr - 32)).layout new) (sym placed.forms) placed.slots;
        long = blank.long;
        bytes = λ k less clear. byte_zero next.bytes addr new.size k placed.zero less ∙ sym (blank.bytes k less);
        many = blank.many;
        pointers = λ k less.
            let slot = slice_index new.slots k in
            let ends = slot_ends 0 new.size new.slots slot slots (k, less, get_or_default new.slots k slot 0 less) in
            let zero_is = word_zero next.bytes (addr + slot) 4 (omega arith) (λ i small. let e : addr + slot + i ≡ addr + (slot + i) = omega arith in ap (λ m. get_or next.bytes m 0) e ∙ byte_zero next.bytes addr new.size (slot + i) placed.zero (omega arith)) in
            subst (λ (p : Pointer). IsAddressOf new_places (objects ++ new ∷ []) p (word next.bytes (addr + slot) 4)) (sym (blank.pointers k less)) zero_is;
        marks = placed.marked;
      }

  pub added : IsAdded next places objects new addr
  added = record {
    keeps = record {
      held = held_all;
      standing = λ birth there.
          elim (old_or_new objects new birth there) [
            | inl below ↦
                let same = at_old objects new birth below in
                let old_there : IsThere objects birth = ap (λ (o : Object). is_dead o.standing) (sym same) ∙ there in
                let at : places birth ≡ new_places birth = sym (place_other places (length objects) addr birth (λ e. omega arith)) in
                subst (λ (a : ℕ). StandsAt next new_places (objects ++ new ∷ []) birth a (object_at (objects ++ new ∷ []) birth)) at
                (subst (StandsAt next new_places (objects ++ new ∷ []) birth (places birth)) (sym same) (old_stands birth old_there))
            | inr e ↦
                let same : new ≡ object_at (objects ++ new ∷ []) birth = sym (at_new objects new) ∙ ap (object_at (objects ++ new ∷ [])) (sym e) in
                let at : addr ≡ new_places birth = sym (place_same places (length objects) addr) ∙ ap new_places (sym e) in
                subst (λ (b : ℕ). StandsAt next new_places (objects ++ new ∷ []) b (new_places birth) (object_at (objects ++ new ∷ []) birth)) (sym e)
                (subst (λ (a : ℕ). StandsAt next new_places (objects ++ new ∷ []) (length objects) a (object_at (objects ++ new ∷ []) birth)) at
                (subst (StandsAt next new_places (objects ++ new ∷ []) (length objects) addr) same new_stands))
          ];
    };
    blocks = blocks_behind;
    stand = addresses;
  }

-- Blank objects

pub blank_is : (sort : Sort) (size : ℕ) (slots : List ℕ) → IsBlank (blank sort size slots)
blank_is sort size slots = record {
  there = refl;
  long = length-replicate size 0;
  bytes = λ k less. get_or-replicate size k 0 0 less;
  many = length-replicate (length slots) pointer.Null;
  pointers = λ k less. get_or-replicate (length slots) k pointer.Null pointer.Null less;
}

moved_none : (slots : List ℕ) (by : ℕ) → by ≡ 0 → moved by slots ≡ slots
moved_none [] by none = refl
moved_none (s ∷ slots) by none = let e : by + s ≡ s = omega arith in λ i. e i ∷ moved_none slots by none i

-- one element has its own slots
pub own_element : (size : ℕ) (slots : List ℕ) → AreSlots 0 size slots → object_slots (record { size = size; slots = slots }) size ≡ slots
own_element zero [] are = refl
own_element zero (s ∷ slots) are = absurd (omega (arith, are.1))
own_element (suc size) slots are =
    let some : 0 < suc size = omega arith in
    let whole : suc size / suc size ≡ 1 = div_self some in
    ap (λ n. flat_map (λ k. moved (k * suc size) slots) (range_with_len 0 n)) whole
    ∙ append-nil (moved (0 * suc size) slots) ∙ moved_none slots (0 * suc size) (omega arith)
