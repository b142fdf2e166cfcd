-- What the marks at an address say of an access.
use Rattle.std.proofs.Common.{◌≡◌, ◌<◌, ◌≤◌, ◌+◌, ◌-◌, ◌%◌, ◌∙◌, inl, inr, ℕ, Bool, true, false, cond, List, length, Ok, refl, sym, ap, arith}
use Rattle.std.specs.Prelude.{slice_index}
use Rattle.std.proofs.lemmas.Bool.{cases_lt}
use Rattle.hs_base.specs.declared.values.Pointer.{Pointer}
use Rattle.hs_base.specs.declared.values.Pointer.TheVariants as pointer
use Rattle.hs_base.specs.Access.{Place, access_integer, access_pointer, is_slot, touches_slot}
use Rattle.hs_base.specs.Object.{Object, object_at}
use Rattle.byte_marks.specs.declared.TheConstants.{BYTE, SLOT, LATER}
use Rattle.byte_marks.specs.Marks.{AreBytes, IsSlotAt}
use Rattle.heap_blocks.specs.Heads.{header_at}
use Rattle.flat_objects.specs.Memory.{Memory, IsMemory, heap_of, range_of}
use Rattle.flat_objects.specs.Standing.{IsThere}
use Rattle.flat_objects.specs.Keeping.{Keeps, KeepsAt}
use Rattle.flat_objects.proofs.Ascending.{slot_ends}
use Rattle.flat_objects.proofs.Owners.{own_inside, own_is_block}
use Rattle.flat_objects.proofs.Reached.{are_slots}
use Rattle.flat_objects.proofs.Touching.{IsWidth, slot_is_there, touched, untouched}
use Rattle.flat_objects.proofs.Trying.{allowed_integer, allowed_pointer, place_at}

-- Marks

outside_slots : (s t : Bool) → cond s SLOT (cond t LATER BYTE) ≡ BYTE → t ≡ false
outside_slots true t e = absurd (omega arith)
outside_slots false true e = absurd (omega arith)
outside_slots false false e = refl

first_of_slot : (s t : Bool) → cond s SLOT (cond t LATER BYTE) ≡ SLOT → s ≡ true
first_of_slot true t e = refl
first_of_slot false true e = absurd (omega arith)
first_of_slot false false e = absurd (omega arith)

-- An object's address is a multiple of 16

module _ (locals heap : ℕ) (memory : Memory) (shape : IsMemory locals heap memory) (places : ℕ → ℕ) (objects : List Object) (keeps : Keeps memory places objects) (birth : ℕ) (there : IsThere objects birth) where
  own_aligned : places birth % 16 ≡ 0
  own_aligned =
      let base = (heap_of memory (range_of (object_at objects birth).sort)).base in
      let room = (keeps.standing birth there).room in
      let place : (places birth - (base + 32)) % 16 ≡ 0 = (own_is_block memory places objects keeps birth there).aligned in
      let start : base % 16 ≡ 0 = shape.aligned (range_of (object_at objects birth).sort) in
      aligned_sum base (places birth - (base + 32)) (places birth) start place (omega arith) where
        aligned_sum : (x y z : ℕ) → x % 16 ≡ 0 → y % 16 ≡ 0 → z ≡ x + 32 + y → z % 16 ≡ 0
        aligned_sum x y z hx hy e = omega arith

  aligned_offset : (offset n addr : ℕ) → IsWidth n → addr ≡ places birth + offset → addr % n ≡ 0 → offset % n ≡ 0
  aligned_offset offset n addr (inl e) is whole = let own = own_aligned in ap (λ m. offset % m) e ∙ omega arith
  aligned_offset offset n addr (inr (inl e)) is whole =
      let own = own_aligned in
      let even : addr % 2 ≡ 0 = ap (λ m. addr % m) (sym e) ∙ whole in
      ap (λ m. offset % m) e ∙ omega arith
  aligned_offset offset n addr (inr (inr (inl e))) is whole =
      let own = own_aligned in
      let even : addr % 4 ≡ 0 = ap (λ m. addr % m) (sym e) ∙ whole in
      ap (λ m. offset % m) e ∙ omega arith
  aligned_offset offset n addr (inr (inr (inr e))) is whole =
      let own = own_aligned in
      let even : addr % 8 ≡ 0 = ap (λ m. addr % m) (sym e) ∙ whole in
      ap (λ m. offset % m) e ∙ omega arith

-- Bytes outside of slots

module _ (locals heap : ℕ) (memory : Memory) (shape : IsMemory locals heap memory) (places : ℕ → ℕ) (objects : List Object) (addr n : ℕ) (width : IsWidth n) (bytes : AreBytes memory.marks.bytes addr n) (whole : addr % n ≡ 0) where
  some : 0 < n
  some = go width where
    go : IsWidth n → 0 < n
    go (inl e) = omega arith
    go (inr (inl e)) = omega arith
    go (inr (inr (inl e))) = omega arith
    go (inr (inr (inr e))) = omega arith

  module _ (birth offset : ℕ) (at : KeepsAt memory places objects (pointer.At birth offset) addr) where
    plain_fits : offset + n ≤ (object_at objects birth).size
    plain_fits =
        let o = object_at objects birth in
        let inside = at.stands.inside in
        let address = at.stands.address in
        elim (cases_lt o.size (offset + n)) [
          | inr fits ↦ fits
          | inl over ↦
              let k = o.size - offset in
              let here : slice_index memory.marks.bytes (addr + k) ≡ BYTE = bytes.bytes k (omega arith) in
              let there : addr + k ≡ places birth + o.size = omega arith in
              let behind = (at.keeps.standing birth at.stands.there).marks.bytes.behind in
              let same = ap (slice_index memory.marks.bytes) there in
              absurd (omega arith)
        ]

    -- each byte among them is outside of slots
    plain_byte : (b : ℕ) → offset ≤ b → b < offset + n → touches_slot (object_at objects birth).slots b 1 ≡ false
    plain_byte b low high =
        let o = object_at objects birth in
        let address = at.stands.address in
        let fits = plain_fits in
        let here : slice_index memory.marks.bytes (addr + (b - offset)) ≡ BYTE = bytes.bytes (b - offset) (omega arith) in
        let same : addr + (b - offset) ≡ places birth + b = omega arith in
        outside_slots (is_slot o.slots b) (touches_slot o.slots b 1)
        (sym ((at.keeps.standing birth at.stands.there).marks.bytes.bytes b (omega arith)) ∙ sym (ap (slice_index memory.marks.bytes) same) ∙ here)

    plain_clear : touches_slot (object_at objects birth).slots offset n ≡ false
    plain_clear =
        let slots = (object_at objects birth).slots in
        let positive = some in
        untouched slots offset n (λ t.
        let before = t.before in
        let behind = t.behind in
        elim (cases_lt t.slot offset) [
          | inl low ↦
              let hit = touched slots offset 1 (record { slot = t.slot; there = t.there; before = omega arith; behind = behind }) in
              let clear = plain_byte offset (omega arith) (omega arith) in cc
          | inr high ↦
              let hit = touched slots t.slot 1 (record { slot = t.slot; there = t.there; before = omega arith; behind = omega arith }) in
              let clear = plain_byte t.slot high before in cc
        ])

  pub plain_allowed : (p : Pointer) → KeepsAt memory places objects p addr → (at : Place) × (access_integer objects p n ≡ Ok at)
  plain_allowed pointer.Null at =
      let stands : addr ≡ 0 = at.stands in
      let positive = some in
      let here : slice_index memory.marks.bytes (addr + 0) ≡ BYTE = bytes.bytes 0 (omega arith) in
      let same : addr + 0 ≡ 0 = omega arith in
      let null = shape.null in
      let other = ap (slice_index memory.marks.bytes) same in
      absurd (omega arith)
  plain_allowed (pointer.At birth offset) at = (
    place_at birth offset,
    allowed_integer objects birth offset n at.stands.there (plain_fits birth offset at)
        (aligned_offset locals heap memory shape places objects at.keeps birth at.stands.there offset n addr width at.stands.address whole) (plain_clear birth offset at),
  )

  pub plain_inside : (p : Pointer) → KeepsAt memory places objects p addr → addr + n ≤ length memory.bytes
  plain_inside pointer.Null at =
      let stands : addr ≡ 0 = at.stands in
      let positive = some in
      let here : slice_index memory.marks.bytes (addr + 0) ≡ BYTE = bytes.bytes 0 (omega arith) in
      let same : addr + 0 ≡ 0 = omega arith in
      let null = shape.null in
      let other = ap (slice_index memory.marks.bytes) same in
      absurd (omega arith)
  plain_inside (pointer.At birth offset) at =
      let fits = plain_fits birth offset at in
      let inside = own_inside memory places objects at.keeps birth at.stands.there locals heap shape in
      omega (arith, at.stands.address)

-- Slots

module _ (locals heap : ℕ) (memory : Memory) (shape : IsMemory locals heap memory) (places : ℕ → ℕ) (objects : List Object) (addr : ℕ) (slot : IsSlotAt memory.marks.bytes addr) (whole : addr % 4 ≡ 0) where
  module _ (birth offset : ℕ) (at : KeepsAt memory places objects (pointer.At birth offset) addr) where
    slot_below : offset < (object_at objects birth).size
    slot_below =
        let o = object_at objects birth in
        let inside = at.stands.inside in
        let address = at.stands.address in
        elim (cases_lt offset o.size) [
          | inl less ↦ less
          | inr end ↦
              let there : addr ≡ places birth + o.size = omega arith in
              let behind = (at.keeps.standing birth at.stands.there).marks.bytes.behind in
              let first = slot.first in
              let same = ap (slice_index memory.marks.bytes) there in
              absurd (omega arith)
        ]

    slot_there : is_slot (object_at objects birth).slots offset ≡ true
    slot_there =
        let o = object_at objects birth in
        let same : addr ≡ places birth + offset = at.stands.address in
        first_of_slot (is_slot o.slots offset) (touches_slot o.slots offset 1)
        (sym ((at.keeps.standing birth at.stands.there).marks.bytes.bytes offset slot_below) ∙ sym (ap (slice_index memory.marks.bytes) same) ∙ slot.first)

    slot_fits : offset + 4 ≤ (object_at objects birth).size
    slot_fits =
        let o = object_at objects birth in
        let slots = are_slots locals heap memory (header_at memory.bytes (places birth - 32)).layout o shape (at.keeps.standing birth at.stands.there).slots in
        slot_ends 0 o.size o.slots offset slots (slot_is_there o.slots offset slot_there)

  null_is_none : addr ≡ 0 → ⊥
  null_is_none stands =
      let first = slot.first in
      let null = shape.null in
      let same = ap (slice_index memory.marks.bytes) stands in
      omega arith

  pub slot_allowed : (p : Pointer) → KeepsAt memory places objects p addr → (at : Place) × (access_pointer objects p ≡ Ok at)
  slot_allowed pointer.Null at = absurd (null_is_none at.stands)
  slot_allowed (pointer.At birth offset) at = (
    place_at birth offset,
    allowed_pointer objects birth offset 4 at.stands.there (slot_fits birth offset at)
        (aligned_offset locals heap memory shape places objects at.keeps birth at.stands.there offset 4 addr (inr (inr (inl refl))) at.stands.address whole) (slot_there birth offset at),
  )

  pub slot_inside : (p : Pointer) → KeepsAt memory places objects p addr → addr + 4 ≤ length memory.bytes
  slot_inside pointer.Null at = absurd (null_is_none at.stands)
  slot_inside (pointer.At birth offset) at =
      let fits = slot_fits birth offset at in
      let inside = own_inside memory places objects at.keeps birth at.stands.there locals heap shape in
      omega (arith, at.stands.address)
