-- What copies and sets of ranges ask of a memory, and what they leave.
use Rattle.std.proofs.Common.{◌≡◌, ◌≤◌, ◌+◌, ◌∙◌, ℕ, List, length, min, Ok, Err, OnErr, OnOk, Result, sym, ap, subst, arith}
use Rattle.std.proofs.lemmas.List.{length-map}
use Rattle.hs_base.specs.declared.ends.TrapKind.{TrapKind}
use Rattle.hs_base.specs.declared.values.Pointer.{Pointer}
use Rattle.hs_base.specs.declared.values.Pointer.TheVariants as pointer
use Rattle.hs_base.specs.Access.{Refusal, copy, set_bytes}
use Rattle.hs_base.specs.Object.{Object, object_at}
use Rattle.object_meaning.specs.objects.Memory.{copied}
use Rattle.count_table.specs.Table.{Table}
use Rattle.typed_copies.specs.declared.Ranged.{Ranged}
use Rattle.typed_copies.specs.Copying.{Answers, HasRoom, IsCleared, IsCopied, IsRangeIn, bytes_after, slots_of, words_of}
use Rattle.typed_copies.specs.Pointers.{ArePointers, Cover, HaveRoom, words_at}
use Rattle.typed_copies.specs.CopyingEquations.{after_copy, after_set}
use Rattle.flat_objects.specs.Memory.{Memory, IsMemory}
use Rattle.flat_objects.specs.Standing.{IsAddressOf}
use Rattle.flat_objects.specs.Keeping.{Keeps, KeepsAt}
use Rattle.flat_objects.specs.Answering.{Changes}
use Rattle.flat_objects.specs.Counting.{Frees, StaysTracked, Tracks}
use Rattle.flat_objects.specs.Ranges.{IsRangeAt, shared_size}
use Rattle.flat_objects.proofs.Changing.{with_bytes}
use Rattle.flat_objects.proofs.Counted.{with_counts}
use Rattle.flat_objects.proofs.RangesCounts.{are_pointers, cover, have_room}
use Rattle.flat_objects.proofs.RangesKept.{copy_changed, copy_tracked, set_changed, set_tracked}
use Rattle.flat_objects.proofs.RangesMeant.{copied_is, copy_told, refused_stays, set_told}
use Rattle.flat_objects.proofs.Stored.{same_after}

-- What is asked

module _ (locals heap : ℕ) (memory : Memory) (shape : IsMemory locals heap memory) (places : ℕ → ℕ) (objects : List Object) (keeps : Keeps memory places objects) (p : Pointer) (range : Ranged) (at : IsRangeAt memory places objects p range) where
  -- the words in the slots of its object
  own_words : words_at memory.bytes (places at.lies.birth) (object_at objects at.lies.birth).slots ≡ words_of memory.forms memory.bytes range
  own_words = λ i. words_at memory.bytes (sym at.start i) (at.lies.slots i)

  pub range_pointers : ArePointers memory.bytes memory.counts (words_of memory.forms memory.bytes range)
  range_pointers = subst (ArePointers memory.bytes memory.counts) own_words (are_pointers locals heap memory shape places objects keeps at.lies.birth at.lies.there)

  pub range_covered : (frees : Frees) → Tracks memory places objects frees → Cover memory.counts (words_of memory.forms memory.bytes range)
  range_covered frees tracks = subst (Cover memory.counts) own_words (cover locals heap memory shape places objects keeps frees tracks at.lies.birth at.lies.there)

  pub range_room : (frees : Frees) → Tracks memory places objects frees → (src : Ranged) (n : ℕ) → HasRoom memory.forms memory.bytes memory.counts range src n
  range_room frees tracks src n _ =
      let slots = slots_of memory.forms range in
      let new = words_of memory.forms (bytes_after memory.bytes range src n) range in
      let many : length new ≡ length (words_of memory.forms memory.bytes range) = length-map slots _ ∙ sym (length-map slots _) in
      subst (λ (ws : List ℕ). length new ≡ length ws → HaveRoom memory.counts ws new) own_words (have_room locals heap memory shape places objects keeps frees tracks at.lies.birth at.lies.there new) many

-- A copy

module _ (locals heap : ℕ) (memory : Memory) (shape : IsMemory locals heap memory) (dst src : Ranged) (n : ℕ) (bytes : List ℕ) (counts : Table) (places : ℕ → ℕ) (objects : List Object) (p q : Pointer) (addr : ℕ) (keeps : Keeps memory places objects)
    (to : IsRangeAt memory places objects p dst) (from : IsRangeAt memory places objects q src) (stands : IsAddressOf places objects q addr) (into : dst.offset + n ≤ dst.size) (out : src.offset + n ≤ src.size) where
  -- the copy, with the slots and the starts of the objects
  placed : IsCopied (slots_of memory.forms dst) (slots_of memory.forms src) dst src n memory.bytes bytes memory.counts counts
      → IsCopied (object_at objects to.lies.birth).slots (object_at objects from.lies.birth).slots (record dst { start = places to.lies.birth }) (record src { start = places from.lies.birth }) n memory.bytes bytes memory.counts counts
  placed made =
      let d = (object_at objects to.lies.birth).slots in
      let s = (object_at objects from.lies.birth).slots in
      let with_d = subst (λ (x : List ℕ). IsCopied x (slots_of memory.forms src) dst src n memory.bytes bytes memory.counts counts) (sym to.lies.slots) made in
      let with_s = subst (λ (x : List ℕ). IsCopied d x dst src n memory.bytes bytes memory.counts counts) (sym from.lies.slots) with_d in
      let with_start = subst (λ (x : ℕ). IsCopied d s (record dst { start = x }) src n memory.bytes bytes memory.counts counts) to.start with_s in
      subst (λ (x : ℕ). IsCopied d s (record dst { start = places to.lies.birth }) (record src { start = x }) n memory.bytes bytes memory.counts counts) from.start with_start

  abbrev after : List Object
  after = after_copy memory.forms objects p q dst src n to.lies from.lies

  meant : (new : List Object) → copy objects p q n ≡ Ok new → copied objects p q n ≡ Ok after
  meant new means = copied_is memory places objects keeps p q addr stands n ∙ copy_told memory.forms objects p q dst src n to.lies from.lies into out new means

  pub copy_changes : (result : Result Unit TrapKind) → Answers result (copy objects p q n) → OnOk result (IsCopied (slots_of memory.forms dst) (slots_of memory.forms src) dst src n memory.bytes bytes memory.counts counts) → OnErr result ((bytes ≡ memory.bytes) × (counts ≡ memory.counts))
      → Changes places objects result memory (with_counts (with_bytes memory bytes) counts) (copied objects p q n)
  copy_changes (Ok u) answers made refused = (
    after,
    meant answers.0 answers.1,
    copy_changed locals heap memory shape places objects keeps to.lies.birth from.lies.birth to.lies.there from.lies.there dst src n (omega (arith, to.lies.size)) (omega (arith, from.lies.size)) bytes counts (placed made),
  )
  copy_changes (Err kind) answers made refused = (
    copied_is memory places objects keeps p q addr stands n ∙ answers,
    λ i. record memory { bytes = refused.0 i; counts = refused.1 i },
  )

  pub copy_tracks : (result : Result Unit TrapKind) → Answers result (copy objects p q n) → OnOk result (IsCopied (slots_of memory.forms dst) (slots_of memory.forms src) dst src n memory.bytes bytes memory.counts counts)
      → StaysTracked memory (with_counts (with_bytes memory bytes) counts) places objects (copied objects p q n)
  copy_tracks (Ok u) answers made = λ new frees means tracks.
      subst (λ (l : List Object). Tracks (with_counts (with_bytes memory bytes) counts) places l frees) (same_after after new (meant answers.0 answers.1) means)
      (copy_tracked locals heap memory shape places objects keeps to.lies.birth from.lies.birth to.lies.there from.lies.there dst src n (omega (arith, to.lies.size)) (omega (arith, from.lies.size)) bytes counts (placed made) frees tracks)
  copy_tracks (Err kind) answers made =
      refused_stays memory (with_counts (with_bytes memory bytes) counts) places objects (copied objects p q n) _ (copied_is memory places objects keeps p q addr stands n ∙ answers)

-- A set

module _ (locals heap : ℕ) (memory : Memory) (shape : IsMemory locals heap memory) (dst : Ranged) (byte n : ℕ) (bytes : List ℕ) (counts : Table) (places : ℕ → ℕ) (objects : List Object) (p : Pointer) (keeps : Keeps memory places objects)
    (to : IsRangeAt memory places objects p dst) (into : dst.offset + n ≤ dst.size) (some : n ≡ 0 → ⊥) where
  set_placed : IsCleared (slots_of memory.forms dst) dst byte n memory.bytes bytes memory.counts counts → IsCleared (object_at objects to.lies.birth).slots (record dst { start = places to.lies.birth }) byte n memory.bytes bytes memory.counts counts
  set_placed made =
      let with_slots = subst (λ (x : List ℕ). IsCleared x dst byte n memory.bytes bytes memory.counts counts) (sym to.lies.slots) made in
      subst (λ (x : ℕ). IsCleared (object_at objects to.lies.birth).slots (record dst { start = x }) byte n memory.bytes bytes memory.counts counts) to.start with_slots

  abbrev after_fill : List Object
  after_fill = after_set memory.forms objects p dst byte n to.lies

  set_meant : (new : List Object) → set_bytes objects p byte n ≡ Ok new → set_bytes objects p byte n ≡ Ok after_fill
  set_meant new means = set_told memory.forms objects p p dst dst n to.lies to.lies byte into some new means

  pub set_changes : (result : Result Unit TrapKind) → Answers result (set_bytes objects p byte n) → OnOk result (IsCleared (slots_of memory.forms dst) dst byte n memory.bytes bytes memory.counts counts) → OnErr result ((bytes ≡ memory.bytes) × (counts ≡ memory.counts))
      → Changes places objects result memory (with_counts (with_bytes memory bytes) counts) (set_bytes objects p byte n)
  set_changes (Ok u) answers made refused = (
    after_fill,
    set_meant answers.0 answers.1,
    set_changed locals heap memory shape places objects keeps to.lies.birth to.lies.there dst byte n (omega (arith, to.lies.size)) bytes counts (set_placed made),
  )
  set_changes (Err kind) answers made refused = (answers, λ i. record memory { bytes = refused.0 i; counts = refused.1 i })

  pub set_tracks : (result : Result Unit TrapKind) → Answers result (set_bytes objects p byte n) → OnOk result (IsCleared (slots_of memory.forms dst) dst byte n memory.bytes bytes memory.counts counts)
      → StaysTracked memory (with_counts (with_bytes memory bytes) counts) places objects (set_bytes objects p byte n)
  set_tracks (Ok u) answers made = λ new frees means tracks.
      subst (λ (l : List Object). Tracks (with_counts (with_bytes memory bytes) counts) places l frees) (same_after after_fill new (set_meant answers.0 answers.1) means)
      (set_tracked locals heap memory shape places objects keeps to.lies.birth to.lies.there dst byte n (omega (arith, to.lies.size)) bytes counts (set_placed made) frees tracks)
  set_tracks (Err kind) answers made = refused_stays memory (with_counts (with_bytes memory bytes) counts) places objects (set_bytes objects p byte n) _ answers

-- The clauses, where the memory is the one that a call began with

-- an address leads to a range
abbrev pub LeadsTo : Memory → ℕ → Ranged → Type 0
LeadsTo memory addr range = (places : ℕ → ℕ) (objects : List Object) (p : Pointer) → KeepsAt memory places objects p addr → IsRangeAt memory places objects p range

pub record IsMade (memory : Memory) (dst src : Ranged) (n : ℕ) (bytes : List ℕ) (counts : Table) (result : Result Unit TrapKind) : Type 0 where
  pub answers : (objects : List Object) (p q : Pointer) → IsRangeIn memory.forms objects p dst → IsRangeIn memory.forms objects q src → Answers result (copy objects p q n)
  pub made : OnOk result (IsCopied (slots_of memory.forms dst) (slots_of memory.forms src) dst src n memory.bytes bytes memory.counts counts)
  pub refused : OnErr result ((bytes ≡ memory.bytes) × (counts ≡ memory.counts))

pub record IsSet (memory : Memory) (dst : Ranged) (byte n : ℕ) (bytes : List ℕ) (counts : Table) (result : Result Unit TrapKind) : Type 0 where
  pub answers : (objects : List Object) (p : Pointer) → IsRangeIn memory.forms objects p dst → Answers result (set_bytes objects p byte n)
  pub made : OnOk result (IsCleared (slots_of memory.forms dst) dst byte n memory.bytes bytes memory.counts counts)
  pub refused : OnErr result ((bytes ≡ memory.bytes) × (counts ≡ memory.counts))

module _ (locals heap : ℕ) (memory now : Memory) (view : memory ≡ now) (shape : IsMemory locals heap memory) where
  module _ (range : Ranged) (addr : ℕ) (leads : LeadsTo now addr range) (places : ℕ → ℕ) (objects : List Object) (p : Pointer) (at : KeepsAt now places objects p addr) where
    pub asks_pointers : ArePointers memory.bytes memory.counts (words_of memory.forms memory.bytes range)
    asks_pointers =
        subst (λ (m : Memory). ArePointers m.bytes m.counts (words_of m.forms m.bytes range)) (sym view) (range_pointers locals heap now (subst (IsMemory locals heap) view shape) places objects at.keeps p range (leads places objects p at))

    pub asks_covered : (frees : Frees) → Tracks now places objects frees → Cover memory.counts (words_of memory.forms memory.bytes range)
    asks_covered frees tracks =
        subst (λ (m : Memory). Cover m.counts (words_of m.forms m.bytes range)) (sym view) (range_covered locals heap now (subst (IsMemory locals heap) view shape) places objects at.keeps p range (leads places objects p at) frees tracks)

    pub asks_room : (frees : Frees) → Tracks now places objects frees → (src : Ranged) (n : ℕ) → HasRoom memory.forms memory.bytes memory.counts range src n
    asks_room frees tracks src n =
        subst (λ (m : Memory). HasRoom m.forms m.bytes m.counts range src n) (sym view) (range_room locals heap now (subst (IsMemory locals heap) view shape) places objects at.keeps p range (leads places objects p at) frees tracks src n)

  abbrev Leaves : Result Unit TrapKind → Memory → Memory → (ℕ → ℕ) → List Object → Result (List Object) Refusal → Type 0
  Leaves result old new places objects meant = Changes places objects result old new meant × StaysTracked old new places objects meant

  pub copy_leaves : (dst src : Ranged) (n : ℕ) (bytes : List ℕ) (counts : Table) (result : Result Unit TrapKind) (to from : ℕ) → LeadsTo now to dst → LeadsTo now from src → dst.offset + n ≤ dst.size → src.offset + n ≤ src.size → IsMade memory dst src n bytes counts result
      → (places : ℕ → ℕ) (objects : List Object) (p q : Pointer) → KeepsAt now places objects p to → IsAddressOf places objects q from → Leaves result now (with_counts (with_bytes memory bytes) counts) places objects (copied objects p q n)
  copy_leaves dst src n bytes counts result to from dst_at src_at into out done =
      let next = with_counts (with_bytes memory bytes) counts in
      let P : Memory → Type 0 = λ m. LeadsTo m to dst → LeadsTo m from src → (places : ℕ → ℕ) (objects : List Object) (p q : Pointer) → KeepsAt m places objects p to → IsAddressOf places objects q from → Leaves result m next places objects (copied objects p q n) in
      let here : P memory = λ dst_at src_at places objects p q at stands.
      let d = dst_at places objects p at in
      let s = src_at places objects q (record { keeps = at.keeps; stands = stands }) in
      let answers = done.answers objects p q d.lies s.lies in (
        copy_changes locals heap memory shape dst src n bytes counts places objects p q from at.keeps d s stands into out result answers done.made done.refused,
        copy_tracks locals heap memory shape dst src n bytes counts places objects p q from at.keeps d s stands into out result answers done.made,
      ) in
      subst P view here dst_at src_at

  pub set_leaves : (dst : Ranged) (byte n : ℕ) (bytes : List ℕ) (counts : Table) (result : Result Unit TrapKind) (to : ℕ) → LeadsTo now to dst → dst.offset + n ≤ dst.size → (n ≡ 0 → ⊥) → IsSet memory dst byte n bytes counts result
      → (places : ℕ → ℕ) (objects : List Object) (p : Pointer) → KeepsAt now places objects p to → Leaves result now (with_counts (with_bytes memory bytes) counts) places objects (set_bytes objects p byte n)
  set_leaves dst byte n bytes counts result to dst_at into some done =
      let next = with_counts (with_bytes memory bytes) counts in
      let P : Memory → Type 0 = λ m. LeadsTo m to dst → (places : ℕ → ℕ) (objects : List Object) (p : Pointer) → KeepsAt m places objects p to → Leaves result m next places objects (set_bytes objects p byte n) in
      let here : P memory = λ dst_at places objects p at.
      let d = dst_at places objects p at in
      let answers = done.answers objects p d.lies in (
        set_changes locals heap memory shape dst byte n bytes counts places objects p at.keeps d into some result answers done.made done.refused,
        set_tracks locals heap memory shape dst byte n bytes counts places objects p at.keeps d into some result answers done.made,
      ) in
      subst P view here dst_at

-- First bytes

same_birth : (a b x y : ℕ) → pointer.At a x ≡ pointer.At b y → a ≡ b
same_birth a b x y e = cc

same_offset : (a b x y : ℕ) → pointer.At a x ≡ pointer.At b y → x ≡ y
same_offset a b x y e = cc

module _ (memory : Memory) (places : ℕ → ℕ) (objects : List Object) where
  -- a pointer to the first byte of an object leads to the start of its range
  pub first_byte : (birth : ℕ) (range : Ranged) → IsRangeAt memory places objects (pointer.At birth 0) range → range.offset ≡ 0
  first_byte birth range at = sym (same_offset birth at.lies.birth 0 range.offset at.lies.target)

  range_size : (birth offset : ℕ) (range : Ranged) → IsRangeAt memory places objects (pointer.At birth offset) range → (object_at objects birth).size ≡ range.size
  range_size birth offset range at = ap (λ b. (object_at objects b).size) (same_birth birth at.lies.birth offset range.offset at.lies.target) ∙ at.lies.size

  -- what both have
  pub shared_is : (new old : ℕ) (dst src : Ranged) → IsRangeAt memory places objects (pointer.At new 0) dst → IsRangeAt memory places objects (pointer.At old 0) src → min src.size dst.size ≡ shared_size objects new old
  shared_is new old dst src to from = λ i. min (sym (range_size old 0 src from) i) (sym (range_size new 0 dst to) i)
