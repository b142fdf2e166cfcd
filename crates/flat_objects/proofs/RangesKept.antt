-- What a memory keeps and tracks after a copy and a set.
use Rattle.std.proofs.Common.{◌≡◌, ◌<◌, ◌≤◌, ◌+◌, ◌∙◌, ℕ, false, List, length, length-take, length-drop, get_or, get_or-take, get_or-drop, take, drop, replicate, refl, sym, ap, subst, arith}
use Rattle.std.proofs.lemmas.List.{length-replicate}
use Rattle.hs_base.specs.declared.values.Pointer.{Pointer}
use Rattle.hs_base.specs.declared.values.Pointer.TheVariants as pointer
use Rattle.hs_base.specs.Access as access
use Rattle.hs_base.specs.Access.{filled, overlaid, slots_below, slots_within, touches_slot, with_object}
use Rattle.byte_memory.specs.Bytes.{part, word}
use Rattle.hs_base.specs.Object.{Object, object_at}
use Rattle.count_table.specs.Table.{Table}
use Rattle.heap_blocks.specs.Bytes.{ChangesOnly}
use Rattle.typed_copies.specs.declared.Ranged.{Ranged}
use Rattle.typed_copies.specs.Copying.{IsCleared, IsCopied}
use Rattle.typed_copies.specs.Pointers.{Follow, words_at}
use Rattle.typed_copies.specs.PointersEquations.{word_at, words_len}
use Rattle.flat_objects.specs.Memory.{Memory, IsMemory}
use Rattle.flat_objects.specs.Standing.{IsThere, IsAddressOf}
use Rattle.flat_objects.specs.Keeping.{Keeps}
use Rattle.flat_objects.specs.Answering.{IsChanged}
use Rattle.flat_objects.specs.Counting.{Frees, Tracks}
use Rattle.flat_objects.proofs.Changing.{SameShape, StandsNew, changed, same_address, shapes, with_bytes}
use Rattle.flat_objects.proofs.Counted.{with_counts}
use Rattle.flat_objects.proofs.Owners.{own_inside}
use Rattle.flat_objects.proofs.RangesBytes.{changes_over, part_byte, written_over}
use Rattle.flat_objects.proofs.RangesCounts.{counts_follow}
use Rattle.flat_objects.proofs.RangesWords.{Stand, stand_at, stand_drop, stand_long, stand_nulls, stand_overlaid, stand_take, words_stand}
use Rattle.flat_objects.proofs.Tracked.{changed_counting, tracks_counted}
use Rattle.hs_base.specs.AccessEquations.{overlaid_len}
use Rattle.byte_memory.specs.BytesEquations.{part_len}

-- Bytes are written to memory, as many to the bytes of an object, and it has other pointers

module _ (locals heap : ℕ) (memory : Memory) (shape : IsMemory locals heap memory) (places : ℕ → ℕ) (objects : List Object) (keeps : Keeps memory places objects) (birth : ℕ) (there : IsThere objects birth) (at : ℕ) (into own : List ℕ) (ps : List Pointer) where
  abbrev pub new_object : Object
  new_object = record (object_at objects birth) { bytes = overlaid (object_at objects birth).bytes at own; pointers = ps }

  abbrev pub new_bytes : List ℕ
  new_bytes = overlaid memory.bytes (places birth + at) into

  same_shape : SameShape (object_at objects birth) new_object
  same_shape = record { sort = refl; size = refl; slots = refl; standing = refl }

  module _ (many : length into ≡ length own) (fits : at + length own ≤ (object_at objects birth).size) (alike : (j : ℕ) → j < length own → touches_slot (object_at objects birth).slots (at + j) 1 ≡ false → get_or into j 0 ≡ get_or own j 0)
      (stand : Stand places objects ps (words_at new_bytes (places birth) (object_at objects birth).slots)) where
    object_stands : StandsNew new_bytes places (with_object objects birth new_object) (places birth) new_object
    object_stands =
        let o = object_at objects birth in
        let old = keeps.standing birth there in
        let inside = own_inside memory places objects keeps birth there locals heap shape in
        let words = words_at new_bytes (places birth) o.slots in
        let long = words_len new_bytes (places birth) o.slots in
        record {
          long = overlaid_len o.bytes at own (omega (arith, old.long)) ∙ old.long;
          same = λ k less free.
              written_over memory.bytes o.bytes (places birth) at into own k (omega (arith, old.long)) (omega (arith, old.long)) many (omega (arith, old.long)) (old.bytes k less free)
              (λ j low e. alike j low (ap (λ i. touches_slot o.slots i 1) (sym e) ∙ free));
          many = omega (arith, stand_long places objects ps words stand);
          pointers = λ k less.
              let p = get_or ps k pointer.Null in
              let one = stand_at places objects ps words stand k (omega arith) in
              let here = word_at new_bytes (places birth) o.slots k less in
              same_address places objects (with_object objects birth new_object) (shapes objects birth there new_object same_shape) p (word new_bytes (places birth + get_or o.slots k 0) 4)
              (subst (IsAddressOf places objects p) here one);
        }

    bytes_change : ChangesOnly memory.bytes new_bytes (places birth) (object_at objects birth).size
    bytes_change =
        let inside = own_inside memory places objects keeps birth there locals heap shape in
        changes_over memory.bytes (places birth + at) into (omega arith) (places birth) (object_at objects birth).size (omega arith) (omega arith)

    object_changed : IsChanged (with_bytes memory new_bytes) places objects (with_object objects birth new_object)
    object_changed = changed locals heap memory shape places objects keeps birth there new_object same_shape new_bytes bytes_change object_stands

    pub object_counted : (counts : Table) → IsChanged (with_counts (with_bytes memory new_bytes) counts) places objects (with_object objects birth new_object)
    object_counted counts = changed_counting (with_bytes memory new_bytes) counts places objects (with_object objects birth new_object) object_changed

    pub object_tracked : (counts : Table) → Follow memory.counts counts (words_at memory.bytes (places birth) (object_at objects birth).slots) (words_at new_bytes (places birth) (object_at objects birth).slots)
        → (frees : Frees) → Tracks memory places objects frees → Tracks (with_counts (with_bytes memory new_bytes) counts) places (with_object objects birth new_object) frees
    object_tracked counts follow frees tracks =
        let are = counts_follow locals heap memory shape places objects keeps frees tracks birth there counts new_object same_shape (words_at new_bytes (places birth) (object_at objects birth).slots) stand follow in
        tracks_counted locals heap memory shape places objects keeps birth there new_object same_shape new_bytes bytes_change object_changed frees tracks counts follow.most are

-- A copy

module _ (locals heap : ℕ) (memory : Memory) (shape : IsMemory locals heap memory) (places : ℕ → ℕ) (objects : List Object) (keeps : Keeps memory places objects) (d s : ℕ) (d_there : IsThere objects d) (s_there : IsThere objects s) (dst src : Ranged) (n : ℕ)
    (into : dst.offset + n ≤ (object_at objects d).size) (out : src.offset + n ≤ (object_at objects s).size) (bytes : List ℕ) (counts : Table)
    (copied : IsCopied (object_at objects d).slots (object_at objects s).slots (record dst { start = places d }) (record src { start = places s }) n memory.bytes bytes memory.counts counts) where
  -- the bytes that come, in memory and in the source
  abbrev come : List ℕ
  come = part memory.bytes (places s + src.offset) n

  abbrev own_come : List ℕ
  own_come = take n (drop src.offset (object_at objects s).bytes)

  come_long : length come ≡ n
  come_long =
      let inside = own_inside memory places objects keeps s s_there locals heap shape in
      part_len memory.bytes (places s + src.offset) n (omega arith)

  own_long : length own_come ≡ n
  own_long =
      let o = object_at objects s in
      let long = (keeps.standing s s_there).long in
      length-take n (drop src.offset o.bytes) ∙ omega (arith, length-drop src.offset o.bytes)

  abbrev pub copied_object : Object
  copied_object = access.copied (object_at objects d) dst.offset (object_at objects s) src.offset n

  come_alike : (j : ℕ) → j < length own_come → touches_slot (object_at objects d).slots (dst.offset + j) 1 ≡ false → get_or come j 0 ≡ get_or own_come j 0
  come_alike j less free =
      let o = object_at objects s in
      let low : j < n = omega (arith, own_long) in
      let place : places s + src.offset + j ≡ places s + (src.offset + j) = omega arith in
      part_byte memory.bytes (places s + src.offset) n j low ∙ ap (λ i. get_or memory.bytes i 0) place
      ∙ (keeps.standing s s_there).bytes (src.offset + j) (omega arith) (sym (copied.slots j low) ∙ free)
      ∙ sym (get_or-take n (drop src.offset o.bytes) j 0 low ∙ get_or-drop src.offset o.bytes j 0)

  pointers_come : Stand places objects copied_object.pointers (words_at (overlaid memory.bytes (places d + dst.offset) come) (places d) (object_at objects d).slots)
  pointers_come =
      let to = object_at objects d in
      let from = object_at objects s in
      let into_words = words_at memory.bytes (places d) to.slots in
      let out_words = words_at memory.bytes (places s) from.slots in
      let below = length (slots_below from.slots src.offset) in
      let many = length (slots_within from.slots src.offset n) in
      let coming = stand_take places objects many (drop below from.pointers) (drop below out_words) (stand_drop places objects below from.pointers out_words (words_stand memory places objects keeps s s_there)) in
      let stand = stand_overlaid places objects (length (slots_below to.slots dst.offset)) to.pointers into_words (take many (drop below from.pointers)) (take many (drop below out_words)) (words_stand memory places objects keeps d d_there) coming in
      subst (Stand places objects copied_object.pointers) (sym copied.words ∙ ap (λ l. words_at l (places d) to.slots) copied.bytes) stand

  same_bytes : overlaid memory.bytes (places d + dst.offset) come ≡ bytes
  same_bytes = sym copied.bytes

  pub copy_changed : IsChanged (with_counts (with_bytes memory bytes) counts) places objects (with_object objects d copied_object)
  copy_changed =
      subst (λ (l : List ℕ). IsChanged (with_counts (with_bytes memory l) counts) places objects (with_object objects d copied_object)) same_bytes
      (object_counted locals heap memory shape places objects keeps d d_there dst.offset come own_come copied_object.pointers (come_long ∙ sym own_long) (omega (arith, own_long)) come_alike pointers_come counts)

  pub copy_tracked : (frees : Frees) → Tracks memory places objects frees → Tracks (with_counts (with_bytes memory bytes) counts) places (with_object objects d copied_object) frees
  copy_tracked frees tracks =
      let slots = (object_at objects d).slots in
      let follow = subst (λ (l : List ℕ). Follow memory.counts counts (words_at memory.bytes (places d) slots) (words_at l (places d) slots)) copied.bytes copied.counts in
      subst (λ (l : List ℕ). Tracks (with_counts (with_bytes memory l) counts) places (with_object objects d copied_object) frees) same_bytes
      (object_tracked locals heap memory shape places objects keeps d d_there dst.offset come own_come copied_object.pointers (come_long ∙ sym own_long) (omega (arith, own_long)) come_alike pointers_come counts follow frees tracks)

-- A set

module _ (locals heap : ℕ) (memory : Memory) (shape : IsMemory locals heap memory) (places : ℕ → ℕ) (objects : List Object) (keeps : Keeps memory places objects) (d : ℕ) (there : IsThere objects d) (dst : Ranged) (byte n : ℕ) (into : dst.offset + n ≤ (object_at objects d).size) (bytes : List ℕ) (counts : Table)
    (cleared : IsCleared (object_at objects d).slots (record dst { start = places d }) byte n memory.bytes bytes memory.counts counts) where
  abbrev pub filled_object : Object
  filled_object = filled (object_at objects d) dst.offset byte n

  set_long : length (replicate n byte) ≡ n
  set_long = length-replicate n byte

  pointers_go : Stand places objects filled_object.pointers (words_at (overlaid memory.bytes (places d + dst.offset) (replicate n byte)) (places d) (object_at objects d).slots)
  pointers_go =
      let to = object_at objects d in
      let many = length (slots_within to.slots dst.offset n) in
      let stand = stand_overlaid places objects (length (slots_below to.slots dst.offset)) to.pointers (words_at memory.bytes (places d) to.slots) (replicate many pointer.Null) (replicate many 0) (words_stand memory places objects keeps d there) (stand_nulls places objects many) in
      subst (Stand places objects filled_object.pointers) (sym cleared.words ∙ ap (λ l. words_at l (places d) to.slots) cleared.bytes) stand

  pub set_changed : IsChanged (with_counts (with_bytes memory bytes) counts) places objects (with_object objects d filled_object)
  set_changed =
      subst (λ (l : List ℕ). IsChanged (with_counts (with_bytes memory l) counts) places objects (with_object objects d filled_object)) (sym cleared.bytes)
      (object_counted locals heap memory shape places objects keeps d there dst.offset (replicate n byte) (replicate n byte) filled_object.pointers refl (omega (arith, set_long)) (λ j less free. refl) pointers_go counts)

  pub set_tracked : (frees : Frees) → Tracks memory places objects frees → Tracks (with_counts (with_bytes memory bytes) counts) places (with_object objects d filled_object) frees
  set_tracked frees tracks =
      let slots = (object_at objects d).slots in
      let follow = subst (λ (l : List ℕ). Follow memory.counts counts (words_at memory.bytes (places d) slots) (words_at l (places d) slots)) cleared.bytes cleared.counts in
      subst (λ (l : List ℕ). Tracks (with_counts (with_bytes memory l) counts) places (with_object objects d filled_object) frees) (sym cleared.bytes)
      (object_tracked locals heap memory shape places objects keeps d there dst.offset (replicate n byte) (replicate n byte) filled_object.pointers refl (omega (arith, set_long)) (λ j less free. refl) pointers_go counts follow frees tracks)
