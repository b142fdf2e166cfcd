-- What is written to an object.
use Rattle.std.proofs.Common.{◌≡◌, ◌<◌, ◌≤◌, ◌+◌, ◌*◌, ◌^◌, ◌-◌, ◌⊎◌, ◌∙◌, inl, inr, ℕ, ℤ, false, List, length, get_or, set, Ok, Result, refl, sym, ap, subst, arith}
use Rattle.std.specs.Prelude.{Contains, slice_index, slice_index_or}
use Rattle.std.proofs.lemmas.Bool.{cases_lt, cases_order}
use Rattle.std.proofs.lemmas.List.{get_or_default, get_or-set_same, get_or-set_other}
use Rattle.std.proofs.Math.ListN.{length-set}
use Rattle.hs_base.specs.declared.ends.IntKind.{IntKind}
use Rattle.hs_base.specs.declared.values.Pointer.{Pointer}
use Rattle.hs_base.specs.declared.values.Pointer.TheVariants as pointer
use Rattle.hs_base.specs.Access.{Place, Refusal, and_then, access_integer, access_pointer, with_integer, with_pointer, with_object, touches_slot, slots_below, little_endian, bytes_of, overlaid}
use Rattle.byte_memory.specs.Bytes.{word, put_word}
use Rattle.hs_base.specs.Numbers.{width, low_bits}
use Rattle.hs_base.specs.Object.{Object, object_at}
use Rattle.hs_base.specs.AccessEquations.{length-bytes_of}
use Rattle.byte_memory.specs.BytesEquations.{word_1, word_same, word_before, word_past, part_before, part_past, part_inside, length-put_word}
use Rattle.heap_blocks.specs.Bytes.{ChangesOnly}
use Rattle.object_meaning.specs.objects.Memory.{stored, stored_pointer}
use Rattle.flat_objects.specs.Memory.{Memory, IsMemory}
use Rattle.flat_objects.specs.Standing.{IsThere, IsAddressOf}
use Rattle.flat_objects.specs.Keeping.{Keeps, KeepsAt}
use Rattle.flat_objects.specs.Answering.{IsChanged}
use Rattle.flat_objects.specs.Counting.{Frees, Tracks, one_less, one_more}
use Rattle.flat_objects.proofs.Ascending.{below_slot, slots_apart, slot_ends}
use Rattle.flat_objects.proofs.Changing.{SameShape, StandsNew, with_bytes, changed, same_address, shapes}
use Rattle.flat_objects.proofs.Counted.{MayPut, granule_inside, less_most, more_most, slot_counted, slot_counts, slot_room_left, with_counts}
use Rattle.flat_objects.proofs.Loaded.{let_stands, let_inside}
use Rattle.flat_objects.proofs.Reached.{are_slots}
use Rattle.flat_objects.proofs.Touching.{touched, slot_is_there}
use Rattle.flat_objects.proofs.Tracked.{changed_counting, tracks_counted, tracks_within}
use Rattle.flat_objects.proofs.Trying.{let_integer, let_pointer}

-- Bytes after a write

module _ (bytes : List ℕ) (addr n value : ℕ) (inside : addr + n ≤ length bytes) where
  pub byte_before : (k : ℕ) → k < addr → slice_index (put_word bytes addr n value) k ≡ slice_index bytes k
  byte_before k less =
      sym (word_1 (put_word bytes addr n value) k (omega (arith, length-put_word bytes addr n value inside)))
      ∙ word_before bytes addr n value k 1 inside (omega arith) ∙ word_1 bytes k (omega arith)

  pub byte_past : (k : ℕ) → addr + n ≤ k → k < length bytes → slice_index (put_word bytes addr n value) k ≡ slice_index bytes k
  byte_past k past less =
      sym (word_1 (put_word bytes addr n value) k (omega (arith, length-put_word bytes addr n value inside)))
      ∙ word_past bytes addr n value k 1 inside past ∙ word_1 bytes k (omega arith)

  word_inside : (k : ℕ) → addr ≤ k → k < addr + n → word (put_word bytes addr n value) k 1 ≡ word (bytes_of n value) (k - addr) 1
  unfolding word
  word_inside k low high = ap little_endian (part_inside bytes addr n value k 1 inside low (omega arith))

  pub byte_inside : (k : ℕ) → addr ≤ k → k < addr + n → slice_index (put_word bytes addr n value) k ≡ slice_index (bytes_of n value) (k - addr)
  byte_inside k low high =
      sym (word_1 (put_word bytes addr n value) k (omega (arith, length-put_word bytes addr n value inside)))
      ∙ word_inside k low high ∙ word_1 (bytes_of n value) (k - addr) (omega (arith, length-bytes_of n value))

  -- bytes around the written ones are all that changes
  pub changes_within : (start long : ℕ) → start ≤ addr → addr + n ≤ start + long → ChangesOnly bytes (put_word bytes addr n value) start long
  changes_within start long low high = record {
    long = length-put_word bytes addr n value inside;
    below = λ from k less. part_before bytes addr n value from k inside (omega arith);
    above = λ from k past. part_past bytes addr n value from k inside (omega arith);
  }

overlaid_is : (bytes : List ℕ) (at n value : ℕ) → overlaid bytes at (bytes_of n value) ≡ put_word bytes at n value
unfolding put_word
overlaid_is bytes at n value = refl

-- one number is written to memory and to the bytes of an object
written_alike : (bytes own : List ℕ) (start offset n value k : ℕ) → start + length own ≤ length bytes → offset + n ≤ length own → k < length own → ((k < offset ⊎ offset + n ≤ k) → slice_index bytes (start + k) ≡ slice_index own k)
    → slice_index (put_word bytes (start + offset) n value) (start + k) ≡ slice_index (put_word own offset n value) k
written_alike bytes own start offset n value k inside fits less same =
    elim (cases_lt k offset) [
      | inl h ↦ byte_before bytes (start + offset) n value (omega arith) (start + k) (omega arith) ∙ same (inl h) ∙ sym (byte_before own offset n value fits k h)
      | inr h ↦ elim (cases_lt k (offset + n)) [
        | inr past ↦ byte_past bytes (start + offset) n value (omega arith) (start + k) (omega arith) (omega arith) ∙ same (inr past) ∙ sym (byte_past own offset n value fits k past less)
        | inl within ↦
            let distance : start + k - (start + offset) ≡ k - offset = omega arith in
            byte_inside bytes (start + offset) n value (omega arith) (start + k) (omega arith) (omega arith) ∙ ap (slice_index (bytes_of n value)) distance ∙ sym (byte_inside own offset n value fits k h within)
      ]
    ]

-- The object after a write

module _ (locals heap : ℕ) (memory : Memory) (shape : IsMemory locals heap memory) (places : ℕ → ℕ) (objects : List Object) (keeps : Keeps memory places objects) (birth : ℕ) (there : IsThere objects birth) (offset : ℕ) where
  -- an integer
  module _ (n value : ℕ) (inside : places birth + (object_at objects birth).size < length memory.bytes) (fits : offset + n ≤ (object_at objects birth).size) (clear : touches_slot (object_at objects birth).slots offset n ≡ false) where
    abbrev pub with_number : Object
    with_number = record (object_at objects birth) { bytes = overlaid (object_at objects birth).bytes offset (bytes_of n value) }

    number_stands : StandsNew (put_word memory.bytes (places birth + offset) n value) places (with_object objects birth with_number) (places birth) with_number
    number_stands =
        let o = object_at objects birth in
        let old = keeps.standing birth there in
        let start = places birth in
        let slots = are_slots locals heap memory _ o shape old.slots in
        record {
          long = ap length (overlaid_is o.bytes offset n value) ∙ length-put_word o.bytes offset n value (omega (arith, old.long)) ∙ old.long;
          same = λ k less free.
              written_alike memory.bytes o.bytes start offset n value k (omega (arith, old.long)) (omega (arith, old.long)) (omega (arith, old.long)) (λ _. old.bytes k less free)
              ∙ ap (λ b. slice_index b k) (sym (overlaid_is o.bytes offset n value));
          many = old.many;
          pointers = λ k less.
              let slot = slice_index o.slots k in
              let held : Contains o.slots slot = (k, less, get_or_default o.slots k slot 0 less) in
              let ends = slot_ends 0 o.size o.slots slot slots held in
              let same : word (put_word memory.bytes (start + offset) n value) (start + slot) 4 ≡ word memory.bytes (start + slot) 4 =
              elim (cases_lt offset (slot + 4)) [
                | inr before ↦ word_before memory.bytes (start + offset) n value (start + slot) 4 (omega arith) (omega arith)
                | inl behind ↦ elim (cases_lt slot (offset + n)) [
                  | inr past ↦ word_past memory.bytes (start + offset) n value (start + slot) 4 (omega arith) (omega arith)
                  | inl front ↦ let t = touched o.slots offset n (record { slot = slot; there = held; before = front; behind = behind }) in absurd (cc)
                ]
              ] in
              subst (IsAddressOf places (with_object objects birth with_number) (slice_index_or o.pointers k pointer.Null)) (sym same)
              (same_address places objects (with_object objects birth with_number) (shapes objects birth there with_number (record { sort = refl; size = refl; slots = refl; standing = refl })) (slice_index_or o.pointers k pointer.Null) (word memory.bytes (start + slot) 4) (old.pointers k less));
        }

    pub number_changed : IsChanged (with_bytes memory (put_word memory.bytes (places birth + offset) n value)) places objects (with_object objects birth with_number)
    number_changed =
        changed locals heap memory shape places objects keeps birth there with_number (record { sort = refl; size = refl; slots = refl; standing = refl }) (put_word memory.bytes (places birth + offset) n value)
        (changes_within memory.bytes (places birth + offset) n value (omega arith) (places birth) (object_at objects birth).size (omega arith) (omega arith)) number_stands

    pub number_tracked : (frees : Frees) → Tracks memory places objects frees → Tracks (with_bytes memory (put_word memory.bytes (places birth + offset) n value)) places (with_object objects birth with_number) frees
    number_tracked frees tracks =
        tracks_within locals heap memory shape places objects keeps birth there with_number (record { sort = refl; size = refl; slots = refl; standing = refl }) (put_word memory.bytes (places birth + offset) n value)
        (changes_within memory.bytes (places birth + offset) n value (omega arith) (places birth) (object_at objects birth).size (omega arith) (omega arith)) number_changed frees tracks refl

  -- a pointer, in the slot of a number
  module _ (k : ℕ) (q : Pointer) (value : ℕ) (inside : places birth + (object_at objects birth).size < length memory.bytes) (below : k < length (object_at objects birth).slots) (slot_is : slice_index (object_at objects birth).slots k ≡ offset)
      (small : value < 2 ^ 32) (stands_for : IsAddressOf places objects q value) where
    abbrev pub with_target : Object
    with_target = record (object_at objects birth) { pointers = set (object_at objects birth).pointers k q }

    like_before : SameShape (object_at objects birth) with_target
    like_before = record { sort = refl; size = refl; slots = refl; standing = refl }

    slot_inside : offset + 4 ≤ (object_at objects birth).size
    slot_inside =
        let o = object_at objects birth in
        let old = keeps.standing birth there in
        slot_ends 0 o.size o.slots offset (are_slots locals heap memory _ o shape old.slots) (k, below, get_or_default o.slots k offset 0 below ∙ slot_is)

    target_same : (j : ℕ) → j < length (object_at objects birth).slots → j ≡ k → IsAddressOf places (with_object objects birth with_target) (slice_index_or with_target.pointers j pointer.Null) (word (put_word memory.bytes (places birth + offset) 4 value) (places birth + slice_index (object_at objects birth).slots j) 4)
    target_same j less e =
        let o = object_at objects birth in
        let old = keeps.standing birth there in
        let start = places birth in
        let fits = slot_inside in
        let place : slice_index o.slots j ≡ offset = ap (slice_index o.slots) e ∙ slot_is in
        let word_is : value ≡ word (put_word memory.bytes (start + offset) 4 value) (start + slice_index o.slots j) 4 =
        sym (word_same memory.bytes (start + offset) 4 value (omega arith) small) ∙ ap (λ s. word (put_word memory.bytes (start + offset) 4 value) (start + s) 4) (sym place) in
        let pointer_is : q ≡ slice_index_or with_target.pointers j pointer.Null =
        sym (get_or-set_same o.pointers k q pointer.Null (omega (arith, old.many))) ∙ ap (λ m. get_or with_target.pointers m pointer.Null) (sym e) in
        subst (λ (p : Pointer). IsAddressOf places (with_object objects birth with_target) p (word (put_word memory.bytes (start + offset) 4 value) (start + slice_index o.slots j) 4)) pointer_is
        (subst (IsAddressOf places (with_object objects birth with_target) q) word_is
        (same_address places objects (with_object objects birth with_target) (shapes objects birth there with_target like_before) q value stands_for))

    target_other : (j : ℕ) → j < length (object_at objects birth).slots → (j < k) ⊎ (k < j) → IsAddressOf places (with_object objects birth with_target) (slice_index_or with_target.pointers j pointer.Null) (word (put_word memory.bytes (places birth + offset) 4 value) (places birth + slice_index (object_at objects birth).slots j) 4)
    target_other j less which =
        let o = object_at objects birth in
        let old = keeps.standing birth there in
        let start = places birth in
        let fits = slot_inside in
        let slots = are_slots locals heap memory _ o shape old.slots in
        let slot = slice_index o.slots j in
        let ends = slot_ends 0 o.size o.slots slot slots (j, less, get_or_default o.slots j slot 0 less) in
        let word_is : word memory.bytes (start + slot) 4 ≡ word (put_word memory.bytes (start + offset) 4 value) (start + slot) 4 =
        elim which [
          | inl before ↦ let apart = slots_apart 0 o.size o.slots j k 0 slots before below in sym (word_before memory.bytes (start + offset) 4 value (start + slot) 4 (omega arith) (omega arith))
          | inr behind ↦ let apart = slots_apart 0 o.size o.slots k j 0 slots behind less in sym (word_past memory.bytes (start + offset) 4 value (start + slot) 4 (omega arith) (omega arith))
        ] in
        let differ : j ≡ k → ⊥ = λ e. elim which [ inl h ↦ omega arith | inr h ↦ omega arith ] in
        let pointer_is : slice_index_or o.pointers j pointer.Null ≡ slice_index_or with_target.pointers j pointer.Null = sym (get_or-set_other o.pointers k j q pointer.Null differ) in
        subst (λ (p : Pointer). IsAddressOf places (with_object objects birth with_target) p (word (put_word memory.bytes (start + offset) 4 value) (start + slot) 4)) pointer_is
        (subst (IsAddressOf places (with_object objects birth with_target) (slice_index_or o.pointers j pointer.Null)) word_is
        (same_address places objects (with_object objects birth with_target) (shapes objects birth there with_target like_before) (slice_index_or o.pointers j pointer.Null) (word memory.bytes (start + slot) 4) (old.pointers j less)))

    target_stands : StandsNew (put_word memory.bytes (places birth + offset) 4 value) places (with_object objects birth with_target) (places birth) with_target
    target_stands =
        let o = object_at objects birth in
        let old = keeps.standing birth there in
        let start = places birth in
        let fits = slot_inside in
        record {
          long = old.long;
          same = λ m less free.
              (elim (cases_lt m offset) [
                | inl h ↦ byte_before memory.bytes (start + offset) 4 value (omega arith) (start + m) (omega arith)
                | inr h ↦ elim (cases_lt m (offset + 4)) [
                  | inr past ↦ byte_past memory.bytes (start + offset) 4 value (omega arith) (start + m) (omega arith) (omega arith)
                  | inl within ↦ let t = touched o.slots m 1 (record { slot = offset; there = (k, below, get_or_default o.slots k offset 0 below ∙ slot_is); before = omega arith; behind = within }) in absurd (cc)
                ]
              ]) ∙ old.bytes m less free;
          many = length-set o.pointers k q ∙ old.many;
          pointers = λ j less. elim (cases_order j k) [ inl e ↦ target_same j less e | inr which ↦ target_other j less which ];
        }

    pub target_changed : IsChanged (with_bytes memory (put_word memory.bytes (places birth + offset) 4 value)) places objects (with_object objects birth with_target)
    target_changed =
        let fits = slot_inside in
        changed locals heap memory shape places objects keeps birth there with_target like_before (put_word memory.bytes (places birth + offset) 4 value)
        (changes_within memory.bytes (places birth + offset) 4 value (omega arith) (places birth) (object_at objects birth).size (omega arith) (omega arith)) target_stands

    -- the memory with its counts after the pointer was put there
    module _ (old : ℕ) (old_is : old ≡ word memory.bytes (places birth + offset) 4) where
      was_for : IsAddressOf places objects (slice_index_or (object_at objects birth).pointers k pointer.Null) old
      was_for =
          let now = (keeps.standing birth there).pointers k below in
          subst (IsAddressOf places objects (slice_index_or (object_at objects birth).pointers k pointer.Null)) (sym (old_is ∙ ap (λ s. word memory.bytes (places birth + s) 4) (sym slot_is))) now

      pub put_changed : IsChanged (with_counts (with_bytes memory (put_word memory.bytes (places birth + offset) 4 value)) (one_more (one_less memory.counts old) value)) places objects (with_object objects birth with_target)
      put_changed =
          changed_counting (with_bytes memory (put_word memory.bytes (places birth + offset) 4 value)) (one_more (one_less memory.counts old) value) places objects (with_object objects birth with_target) target_changed

      module _ (frees : Frees) (tracks : Tracks memory places objects frees) where
        pub put_requires : MayPut memory.counts old value
        put_requires = record {
          goes_from = granule_inside locals heap memory shape places objects keeps frees tracks (slice_index_or (object_at objects birth).pointers k pointer.Null) old was_for;
          goes = slot_counts locals heap memory shape places objects keeps frees tracks birth there k below q old value was_for stands_for;
          comes_to = granule_inside locals heap memory shape places objects keeps frees tracks q value stands_for;
          room = slot_room_left locals heap memory shape places objects keeps frees tracks birth there k below q old value was_for stands_for;
        }

        pub put_tracked : Tracks (with_counts (with_bytes memory (put_word memory.bytes (places birth + offset) 4 value)) (one_more (one_less memory.counts old) value)) places (with_object objects birth with_target) frees
        put_tracked =
            let fits = slot_inside in
            tracks_counted locals heap memory shape places objects keeps birth there with_target like_before (put_word memory.bytes (places birth + offset) 4 value)
            (changes_within memory.bytes (places birth + offset) 4 value (omega arith) (places birth) (object_at objects birth).size (omega arith) (omega arith)) target_changed frees tracks
            (one_more (one_less memory.counts old) value) (more_most (one_less memory.counts old) value ∙ less_most memory.counts old)
            (slot_counted locals heap memory shape places objects keeps frees tracks birth there k below q old value was_for stands_for)

-- The definitions

-- an answer that goes on goes on with one list of objects
pub same_after : {r : Result (List Object) Refusal} (a b : List Object) → r ≡ Ok a → r ≡ Ok b → a ≡ b
same_after a b one other = cc

module _ (locals heap : ℕ) (memory : Memory) (shape : IsMemory locals heap memory) (places : ℕ → ℕ) (objects : List Object) (p : Pointer) (addr : ℕ) (at : KeepsAt memory places objects p addr) where
  -- what is stored, and what the memory keeps and tracks then
  pub record IsStored (next : Memory) (meant : Result (List Object) Refusal) : Type 0 where
    pub after : List Object
    pub means : meant ≡ Ok after
    pub change : IsChanged next places objects after
    pub tracks : (frees : Frees) → Tracks memory places objects frees → Tracks next places after frees

  pub stored_is : (kind : IntKind) (place : Place) (value : ℕ) (z : ℤ) → access_integer objects p (width kind) ≡ Ok place → value ≡ low_bits (8 * width kind) z
      → IsStored (with_bytes memory (put_word memory.bytes addr (width kind) value)) (stored objects kind p z)
  stored_is kind place value z allowed value_is =
      let n = width kind in
      let o = object_at objects place.birth in
      let h = let_integer objects p n place allowed in
      let s = let_stands locals heap memory shape places objects p addr at n place h.let_through in
      let inside = let_inside locals heap memory shape places objects p addr at n place h.let_through in
      let new = with_object objects place.birth (record o { bytes = overlaid o.bytes place.offset (bytes_of n value) }) in
      record {
        after = new;
        means = ap (λ r. and_then {B = List Object} r (λ at. Ok (with_object objects at.birth (with_integer kind (object_at objects at.birth) at.offset z)))) allowed
            ∙ ap (λ v. let answer : Result (List Object) Refusal = Ok (with_object objects place.birth (record o { bytes = overlaid o.bytes place.offset (bytes_of n v) })) in answer) (sym value_is);
        change = subst (λ (a : ℕ). IsChanged (with_bytes memory (put_word memory.bytes a n value)) places objects new) (sym s.address)
            (number_changed locals heap memory shape places objects at.keeps place.birth h.let_through.there place.offset n value inside h.let_through.inside h.clear);
        tracks = λ frees tracked. subst (λ (a : ℕ). Tracks (with_bytes memory (put_word memory.bytes a n value)) places new frees) (sym s.address)
            (number_tracked locals heap memory shape places objects at.keeps place.birth h.let_through.there place.offset n value inside h.let_through.inside h.clear frees tracked);
      }

  -- the slot at which a pointer is stored
  record IsSlot (place : Place) : Type 0 where
    there : IsThere objects place.birth
    number : ℕ
    below : number < length (object_at objects place.birth).slots
    slot : slice_index (object_at objects place.birth).slots number ≡ place.offset
    number_is : length (slots_below (object_at objects place.birth).slots place.offset) ≡ number
    address : addr ≡ places place.birth + place.offset
    inside : places place.birth + (object_at objects place.birth).size < length memory.bytes

  slot_of : (place : Place) → access_pointer objects p ≡ Ok place → IsSlot place
  slot_of place allowed =
      let o = object_at objects place.birth in
      let h = let_pointer objects p place allowed in
      let s = let_stands locals heap memory shape places objects p addr at 4 place h.let_through in
      let inside = let_inside locals heap memory shape places objects p addr at 4 place h.let_through in
      let old = at.keeps.standing place.birth h.let_through.there in
      let some = slot_is_there o.slots place.offset h.slot in
      record {
        there = h.let_through.there;
        number = some.0;
        below = some.1;
        slot = get_or_default o.slots some.0 0 place.offset some.1 ∙ some.2;
        number_is = ap (λ s. length (slots_below o.slots s)) (sym some.2) ∙ below_slot 0 o.size o.slots some.0 place.offset (are_slots locals heap memory _ o shape old.slots) some.1;
        address = s.address;
        inside = inside;
      }

  module _ (place : Place) (q : Pointer) (value : ℕ) (allowed : access_pointer objects p ≡ Ok place) (small : value < 2 ^ 32) (stands_for : IsAddressOf places objects q value) where
    pub stored_requires : (frees : Frees) → Tracks memory places objects frees → MayPut memory.counts (word memory.bytes addr 4) value
    stored_requires frees tracks =
        let slot = slot_of place allowed in
        put_requires locals heap memory shape places objects at.keeps place.birth slot.there place.offset slot.number q value slot.inside slot.below slot.slot small stands_for (word memory.bytes addr 4) (ap (λ a. word memory.bytes a 4) slot.address) frees tracks

    pub stored_pointer_is : IsStored (with_counts (with_bytes memory (put_word memory.bytes addr 4 value)) (one_more (one_less memory.counts (word memory.bytes addr 4)) value)) (stored_pointer objects p q)
    stored_pointer_is =
        let o = object_at objects place.birth in
        let slot = slot_of place allowed in
        let k = slot.number in
        let old = word memory.bytes addr 4 in
        let old_is : old ≡ word memory.bytes (places place.birth + place.offset) 4 = ap (λ a. word memory.bytes a 4) slot.address in
        let new = with_object objects place.birth (record o { pointers = set o.pointers k q }) in
        record {
          after = new;
          means = ap (λ r. and_then {B = List Object} r (λ at. Ok (with_object objects at.birth (with_pointer (object_at objects at.birth) at.offset q)))) allowed
              ∙ ap (λ m. let answer : Result (List Object) Refusal = Ok (with_object objects place.birth (record o { pointers = set o.pointers m q })) in answer) slot.number_is;
          change = subst (λ (a : ℕ). IsChanged (with_counts (with_bytes memory (put_word memory.bytes a 4 value)) (one_more (one_less memory.counts old) value)) places objects new) (sym slot.address)
              (put_changed locals heap memory shape places objects at.keeps place.birth slot.there place.offset k q value slot.inside slot.below slot.slot small stands_for old old_is);
          tracks = λ frees tracked. subst (λ (a : ℕ). Tracks (with_counts (with_bytes memory (put_word memory.bytes a 4 value)) (one_more (one_less memory.counts old) value)) places new frees) (sym slot.address)
              (put_tracked locals heap memory shape places objects at.keeps place.birth slot.there place.offset k q value slot.inside slot.below slot.slot small stands_for old old_is frees tracked);
        }
