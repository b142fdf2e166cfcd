-- What a memory keeps after the bytes of one object changed.
use Rattle.std.proofs.Common.{◌≡◌, ◌<◌, ◌≤◌, ◌+◌, ◌-◌, ◌⊎◌, inl, inr, ℕ, zero, suc, Bool, true, false, cond, not, List, [], ◌∷◌, length, set, sym, ap, ◌∙◌, refl, subst, arith}
use Rattle.std.specs.Prelude.{map, filter, slice_index, slice_index_or, ◌&&◌}
use Rattle.std.specs.List.{enumerate_from}
use Rattle.std.proofs.Math.ListN.{length-set}
use Rattle.std.proofs.lemmas.Bool.{cases_eq}
use Rattle.std.proofs.lemmas.List.{get_or-set_same, get_or-set_other, get_or_default}
use Rattle.hs_base.specs.declared.values.Pointer.{Pointer}
use Rattle.hs_base.specs.declared.values.Pointer.TheVariants as pointer
use Rattle.hs_base.specs.Access.{with_object, touches_slot, little_endian}
use Rattle.byte_memory.specs.Bytes.{word}
use Rattle.hs_base.specs.Object.{Object, Sort, Standing, is_dead, no_object, object_at}
use Rattle.hs_base.specs.Place.{Block, block_size}
use Rattle.byte_memory.specs.BytesEquations.{word_1}
use Rattle.adjusters.specs.ObjectSlots.{Element, object_slots}
use Rattle.heap_blocks.specs.declared.headers.Header.{Header}
use Rattle.heap_blocks.specs.Bytes.{ChangesOnly}
use Rattle.heap_blocks.specs.Heads.{header_at}
use Rattle.heap_blocks.specs.Held.{HeapModel, Holds}
use Rattle.byte_marks.specs.Marks.{IsMarked}
use Rattle.flat_objects.specs.Memory.{Memory, Range, Statics, Locals, Heap, IsMemory, heap_of, is_of, range_of}
use Rattle.flat_objects.specs.Standing.{IsThere, IsAddressOf}
use Rattle.flat_objects.specs.Keeping.{Keeps, StandsAt, IsHeaderOf, HasSlots, IsLineOf, IsStateOf, block_of, blocks_of, stands_in}
use Rattle.flat_objects.specs.Answering.{IsChanged}
use Rattle.flat_objects.proofs.Apart.{objects_apart}
use Rattle.flat_objects.proofs.Ascending.{slot_ends}
use Rattle.flat_objects.proofs.Blocks.{there_below}
use Rattle.flat_objects.proofs.Owners.{own_inside}
use Rattle.flat_objects.proofs.Reached.{are_slots}

-- Bytes outside the change

-- n bytes from an address on are outside so many others
abbrev pub IsOutside : ℕ → ℕ → ℕ → ℕ → Type 0
IsOutside from n addr long = (from + n ≤ addr) ⊎ (addr + long ≤ from)

pub word_kept : (before after : List ℕ) (addr long from n : ℕ) → ChangesOnly before after addr long → IsOutside from n addr long → word after from n ≡ word before from n
unfolding word
word_kept before after addr long from n changes (inl h) = ap little_endian (changes.below from n h)
word_kept before after addr long from n changes (inr h) = ap little_endian (changes.above from n h)

pub byte_kept : (before after : List ℕ) (addr long from : ℕ) → ChangesOnly before after addr long → IsOutside from 1 addr long → from < length before → slice_index after from ≡ slice_index before from
byte_kept before after addr long from changes out inside =
    sym (word_1 after from (omega (arith, changes.long))) ∙ word_kept before after addr long from 1 changes out ∙ word_1 before from (omega arith)

pub part_outside : (from n addr long at m : ℕ) → IsOutside from n addr long → from ≤ at → at + m ≤ from + n → IsOutside at m addr long
part_outside from n addr long at m (inl h) low high = inl (omega arith)
part_outside from n addr long at m (inr h) low high = inr (omega arith)

pub header_kept : (before after : List ℕ) (addr long block : ℕ) → ChangesOnly before after addr long → IsOutside block 32 addr long → header_at after block ≡ header_at before block
header_kept before after addr long block changes out =
    let same = λ (at m : ℕ) (low : block ≤ at) (high : at + m ≤ block + 32). word_kept before after addr long at m changes (part_outside block 32 addr long at m out low high) in
    let birth = same block 8 (omega arith) (omega arith) in
    let size = same (block + 8) 4 (omega arith) (omega arith) in
    let layout = same (block + 12) 4 (omega arith) (omega arith) in
    let line = same (block + 16) 4 (omega arith) (omega arith) in
    let state = same (block + 20) 4 (omega arith) (omega arith) in
    let freed = same (block + 24) 4 (omega arith) (omega arith) in
    let next = same (block + 28) 4 (omega arith) (omega arith) in
    λ i. record { birth = birth i; size = size i; layout = layout i; line = line i; state = state i; freed = freed i; next = next i }

-- The blocks

-- two objects with one sort, size, slots and standing
pub record SameShape (o other : Object) : Type 0 where
  pub sort : other.sort ≡ o.sort
  pub size : other.size ≡ o.size
  pub slots : other.slots ≡ o.slots
  pub standing : other.standing ≡ o.standing

one_kept : {X Y : Type 0} (f : X → Y) (t u : Bool) (a b : X) (l m : List X) → t ≡ u → f a ≡ f b → map f l ≡ map f m → map f (cond t (a ∷ l) l) ≡ map f (cond u (b ∷ m) m)
one_kept f true true a b l m same e rest = λ i. e i ∷ rest i
one_kept f true false a b l m same e rest = absurd (cc)
one_kept f false true a b l m same e rest = absurd (cc)
one_kept f false false a b l m same e rest = rest

kept_after_set : {Y : Type 0} (f : ℕ × Object → Y) (p : ℕ × Object → Bool) (new : Object) (n : ℕ) (objects : List Object) (k : ℕ)
    → ((m : ℕ) → f (m, new) ≡ f (m, object_at objects k)) → ((m : ℕ) → p (m, new) ≡ p (m, object_at objects k))
    → map f (filter p (enumerate_from n (set objects k new))) ≡ map f (filter p (enumerate_from n objects))
kept_after_set f p new n [] k same_f same_p = refl
kept_after_set f p new n (o ∷ objects) zero same_f same_p =
    one_kept f (p (n, new)) (p (n, o)) (n, new) (n, o) (filter p (enumerate_from (n + 1) objects)) (filter p (enumerate_from (n + 1) objects)) (same_p n) (same_f n) refl
kept_after_set f p new n (o ∷ objects) (suc k) same_f same_p =
    one_kept f (p (n, o)) (p (n, o)) (n, o) (n, o) (filter p (enumerate_from (n + 1) (set objects k new))) (filter p (enumerate_from (n + 1) objects)) refl refl
    (kept_after_set f p new (n + 1) objects k same_f same_p)

abbrev pub with_bytes : Memory → List ℕ → Memory
with_bytes memory bytes = record memory { bytes = bytes }

pub same_range : (memory : Memory) (bytes : List ℕ) (range : Range) → heap_of (with_bytes memory bytes) range ≡ heap_of memory range
same_range memory bytes Statics = refl
same_range memory bytes Locals = refl
same_range memory bytes Heap = refl

like_header : (o new : Object) (birth : ℕ) (h : Header) → SameShape o new → IsHeaderOf h birth o → IsHeaderOf h birth new
like_header o new birth h like old = record {
  born = old.born;
  size = old.size ∙ sym like.size;
  line = subst (λ (s : Sort). IsLineOf s h.line) (sym like.sort) old.line;
  state = subst (λ (s : Standing). IsStateOf s h) (sym like.standing) old.state;
}

like_slots : (forms : List Element) (layout : ℕ) (o new : Object) → SameShape o new → HasSlots forms layout o → HasSlots forms layout new
like_slots forms layout o new like (form, got, is) = (form, got, like.slots ∙ is ∙ ap (object_slots form) (sym like.size))

-- Addresses

-- objects of one size and standing have one address for each pointer
pub same_address : (places : ℕ → ℕ) (before after : List Object) → ((birth : ℕ) → SameShape (object_at before birth) (object_at after birth)) → (p : Pointer) (addr : ℕ) → IsAddressOf places before p addr → IsAddressOf places after p addr
same_address places before after same pointer.Null addr h = h
same_address places before after same (pointer.At birth offset) addr h = record {
  there = ap is_dead (same birth).standing ∙ h.there;
  inside = omega (arith, h.inside, (same birth).size);
  address = h.address;
}

-- One object changes, and the bytes from its start to its end

-- the object in its new bytes
pub record StandsNew (bytes : List ℕ) (places : ℕ → ℕ) (objects : List Object) (addr : ℕ) (o : Object) : Type 0 where
  pub long : length o.bytes ≡ o.size
  pub same : (k : ℕ) → k < o.size → touches_slot o.slots k 1 ≡ false → slice_index bytes (addr + k) ≡ slice_index o.bytes k
  pub many : length o.pointers ≡ length o.slots
  pub pointers : (k : ℕ) → k < length o.slots → IsAddressOf places objects (slice_index_or o.pointers k pointer.Null) (word bytes (addr + slice_index o.slots k) 4)

module _ (objects : List Object) (birth : ℕ) (there : IsThere objects birth) (new : Object) where
  pub at_same : object_at (with_object objects birth new) birth ≡ new
  at_same = get_or-set_same objects birth new no_object (there_below objects birth there)

  pub at_other : (other : ℕ) → (other ≡ birth → ⊥) → object_at (with_object objects birth new) other ≡ object_at objects other
  at_other other differ = get_or-set_other objects birth other new no_object differ

  pub shapes : SameShape (object_at objects birth) new → (other : ℕ) → SameShape (object_at objects other) (object_at (with_object objects birth new) other)
  shapes like other =
      elim (cases_eq other birth) [
        | inl e ↦
            let old : object_at objects birth ≡ object_at objects other = ap (object_at objects) (sym e) in
            let now : new ≡ object_at (with_object objects birth new) other = sym at_same ∙ ap (object_at (with_object objects birth new)) (sym e) in
            subst (λ (o : Object). SameShape o (object_at (with_object objects birth new) other)) old (subst (SameShape (object_at objects birth)) now like)
        | inr differ ↦ subst (SameShape (object_at objects other)) (sym (at_other other differ)) (record { sort = refl; size = refl; slots = refl; standing = refl })
      ]

outside_other : (place size start long at n : ℕ) → (place + size + 33 ≤ start) ⊎ (start + long + 33 ≤ place) → place ≤ at + 32 → at + n ≤ place + size → IsOutside at n start long
outside_other place size start long at n (inl h) low high = inl (omega arith)
outside_other place size start long at n (inr h) low high = inr (omega arith)

-- the headers of all objects stay
pub headers_same : (locals heap : ℕ) (memory : Memory) → IsMemory locals heap memory → (places : ℕ → ℕ) (objects : List Object) → Keeps memory places objects → (birth : ℕ) → IsThere objects birth → (bytes : List ℕ) → ChangesOnly memory.bytes bytes (places birth) (object_at objects birth).size
    → (other : ℕ) → IsThere objects other → header_at bytes (places other - 32) ≡ header_at memory.bytes (places other - 32)
headers_same locals heap memory shape places objects keeps birth there bytes changes other other_there =
    let start = places birth in
    let size = (object_at objects birth).size in
    let old = keeps.standing other other_there in
    elim (cases_eq other birth) [
      | inl e ↦
          let same : places other ≡ start = ap places e in
          header_kept memory.bytes bytes start size (places other - 32) changes (inl (omega (arith, old.room)))
      | inr differ ↦
          let apart = objects_apart locals heap memory shape places objects keeps other birth other_there there differ in
          header_kept memory.bytes bytes start size (places other - 32) changes
          (outside_other (places other) (object_at objects other).size start size (places other - 32) 32 apart (omega arith) (omega (arith, old.room)))
    ]

module _ (locals heap : ℕ) (memory : Memory) (shape : IsMemory locals heap memory) (places : ℕ → ℕ) (objects : List Object) (keeps : Keeps memory places objects) (birth : ℕ) (there : IsThere objects birth)
    (new : Object) (like : SameShape (object_at objects birth) new) (bytes : List ℕ) (changes : ChangesOnly memory.bytes bytes (places birth) (object_at objects birth).size)
    (stands_new : StandsNew bytes places (with_object objects birth new) (places birth) new) where
  other_blocks : (any : Memory) (range : Range) → blocks_of any places (with_object objects birth new) range ≡ blocks_of any places objects range
  other_blocks any range =
      kept_after_set (block_of places (heap_of any range).base) (stands_in range) new 0 objects birth
      (λ m. ap (λ n. let b : Block = record { birth = m; place = places m - ((heap_of any range).base + 32); length = block_size n } in b) like.size)
      (λ m. (λ i. is_of range (like.sort i) && not (is_dead (like.standing i))))

  same_blocks : (range : Range) → blocks_of (with_bytes memory bytes) places (with_object objects birth new) range ≡ blocks_of memory places objects range
  same_blocks range =
      ap (λ (h : HeapModel). map (block_of places h.base) (filter (stands_in range) (enumerate_from 0 (with_object objects birth new)))) (same_range memory bytes range)
      ∙ other_blocks memory range

  still_held : (range : Range) → Holds (heap_of (with_bytes memory bytes) range) (blocks_of (with_bytes memory bytes) places (with_object objects birth new) range)
  still_held range =
      subst (λ (h : HeapModel). Holds h (blocks_of (with_bytes memory bytes) places (with_object objects birth new) range)) (sym (same_range memory bytes range))
      (subst (Holds (heap_of memory range)) (sym (same_blocks range)) (keeps.held range))

  addresses : (p : Pointer) (addr : ℕ) → IsAddressOf places objects p addr → IsAddressOf places (with_object objects birth new) p addr
  addresses = same_address places objects (with_object objects birth new) (shapes objects birth there new like)

  -- the object that changed
  stands_changed : StandsAt (with_bytes memory bytes) places (with_object objects birth new) birth (places birth) new
  stands_changed =
      let old = keeps.standing birth there in
      let header = header_kept memory.bytes bytes (places birth) (object_at objects birth).size (places birth - 32) changes (inl (omega (arith, old.room))) in
      let same_base : (heap_of (with_bytes memory bytes) (range_of new.sort)).base ≡ (heap_of memory (range_of (object_at objects birth).sort)).base =
      ap (λ (h : HeapModel). h.base) (same_range memory bytes (range_of new.sort)) ∙ ap (λ s. (heap_of memory (range_of s)).base) like.sort in
      record {
        room = omega (arith, old.room);
        header = subst (λ (h : Header). IsHeaderOf h birth new) (sym header) (like_header (object_at objects birth) new birth (header_at memory.bytes (places birth - 32)) like old.header);
        slots = subst (λ (h : Header). HasSlots memory.forms h.layout new) (sym header) (like_slots memory.forms (header_at memory.bytes (places birth - 32)).layout (object_at objects birth) new like old.slots);
        long = stands_new.long;
        bytes = stands_new.same;
        many = stands_new.many;
        pointers = stands_new.pointers;
        marks = subst (λ (n : ℕ). IsMarked memory.marks (places birth) n new.slots) (sym like.size) (subst (IsMarked memory.marks (places birth) (object_at objects birth).size) (sym like.slots) old.marks);
      }

  -- each other object
  stands_other : (other : ℕ) → IsThere objects other → (other ≡ birth → ⊥) → StandsAt (with_bytes memory bytes) places (with_object objects birth new) other (places other) (object_at objects other)
  stands_other other other_there differ =
      let o = object_at objects other in
      let start = places birth in
      let size = (object_at objects birth).size in
      let old = keeps.standing other other_there in
      let apart = objects_apart locals heap memory shape places objects keeps other birth other_there there differ in
      let inside = own_inside memory places objects keeps other other_there locals heap shape in
      let slots = are_slots locals heap memory (header_at memory.bytes (places other - 32)).layout o shape old.slots in
      let out = λ (at n : ℕ) (low : places other ≤ at + 32) (high : at + n ≤ places other + o.size). outside_other (places other) o.size start size at n apart low high in
      let header = header_kept memory.bytes bytes start size (places other - 32) changes (out (places other - 32) 32 (omega arith) (omega (arith, old.room))) in
      let same_base = ap (λ (h : HeapModel). h.base) (same_range memory bytes (range_of o.sort)) in
      record {
        room = omega (arith, old.room);
        header = subst (λ (h : Header). IsHeaderOf h other o) (sym header) old.header;
        slots = subst (λ (h : Header). HasSlots memory.forms h.layout o) (sym header) old.slots;
        long = old.long;
        bytes = λ k less clear. byte_kept memory.bytes bytes start size (places other + k) changes (out (places other + k) 1 (omega arith) (omega arith)) (omega arith) ∙ old.bytes k less clear;
        many = old.many;
        pointers = λ k less.
            let ends = slot_ends 0 o.size o.slots (slice_index o.slots k) slots (k, less, get_or_default o.slots k (slice_index o.slots k) 0 less) in
            let same = word_kept memory.bytes bytes start size (places other + slice_index o.slots k) 4 changes (out (places other + slice_index o.slots k) 4 (omega arith) (omega arith)) in
            subst (IsAddressOf places (with_object objects birth new) (slice_index_or o.pointers k pointer.Null)) (sym same)
            (addresses (slice_index_or o.pointers k pointer.Null) (word memory.bytes (places other + slice_index o.slots k) 4) (old.pointers k less));
        marks = old.marks;
      }

  pub changed : IsChanged (with_bytes memory bytes) places objects (with_object objects birth new)
  changed = record {
    keeps = record {
      held = still_held;
      standing = λ other other_there.
          elim (cases_eq other birth) [
            | inl e ↦
                let now : new ≡ object_at (with_object objects birth new) other = sym (at_same objects birth there new) ∙ ap (object_at (with_object objects birth new)) (sym e) in
                subst (λ (b : ℕ). StandsAt (with_bytes memory bytes) places (with_object objects birth new) b (places b) (object_at (with_object objects birth new) other)) (sym e)
                (subst (StandsAt (with_bytes memory bytes) places (with_object objects birth new) birth (places birth)) now stands_changed)
            | inr differ ↦
                let same = at_other objects birth there new other differ in
                subst (StandsAt (with_bytes memory bytes) places (with_object objects birth new) other (places other)) (sym same)
                (stands_other other (ap (λ (o : Object). is_dead o.standing) (sym same) ∙ other_there) differ)
          ];
    };
    many = length-set objects birth new;
    blocks = other_blocks;
    stand = addresses;
  }
