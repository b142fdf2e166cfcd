-- What copies and sets of ranges of bytes answer, and what they leave.
use Rattle.std.specs.Prelude.{◌≡◌, ◌+◌, ◌<◌, ◌≤◌, ℕ, true, false, List, [], length, replicate, take, drop, Result, Ok, Err, slice_index_or}
use Rattle.hs_base.specs.declared.ends.TrapKind.{TrapKind}
use Rattle.hs_base.specs.declared.values.Pointer.{Pointer}
use Rattle.hs_base.specs.declared.values.Pointer.TheVariants as pointer
use Rattle.hs_base.specs.Access.{Refusal, Trapped, overlaid, slots_below, slots_within, touches_slot}
use Rattle.byte_memory.specs.Bytes.{part}
use Rattle.hs_base.specs.Object.{Object, is_dead, object_at}
use Rattle.adjusters.specs.ObjectSlots.{Element, object_slots}
use Rattle.count_table.specs.Table.{Table}
use Rattle.typed_copies.specs.declared.Ranged.{Ranged}
use Rattle.typed_copies.specs.Slots.{slots_agree}
use Rattle.typed_copies.specs.Pointers.{Follow, HaveRoom, words_at}

-- the element of a number, by which an object names it
abbrev pub form_at : List Element → ℕ → Element
form_at forms number = slice_index_or forms number (record { size = 0; slots = [] })

-- the slots of the object of a range
abbrev pub slots_of : List Element → Ranged → List ℕ
slots_of forms range = object_slots (form_at forms range.form) range.size

-- the words in these slots
abbrev pub words_of : List Element → List ℕ → Ranged → List ℕ
words_of forms bytes range = words_at bytes range.start (slots_of forms range)

-- the bytes once n of them were copied from one range to another, as through a buffer
abbrev pub bytes_after : List ℕ → Ranged → Ranged → ℕ → List ℕ
bytes_after bytes dst src n = overlaid bytes (dst.start + dst.offset) (part bytes (src.start + src.offset) n)

-- where the slots allow a copy of n bytes, the counts have room for the pointers that come by it
abbrev pub HasRoom : List Element → List ℕ → Table → Ranged → Ranged → ℕ → Type 0
HasRoom forms bytes counts dst src n =
    slots_agree (slots_of forms dst) dst.offset (slots_of forms src) src.offset n ≡ true
    → HaveRoom counts (words_of forms bytes dst) (words_of forms (bytes_after bytes dst src n) dst)

-- the object of a range lies inside the bytes, its offset is at most its size, and its element is one of these
pub record IsInside (forms : List Element) (bytes : List ℕ) (range : Ranged) : Type 0 where
  pub end : range.start + range.size ≤ length bytes
  pub offset : range.offset ≤ range.size
  pub form : range.form < length forms

-- Answers

-- the pointer leads to the offset of a range, in an object that is not dead and has its size and its slots
pub record IsRangeIn (forms : List Element) (objects : List Object) (p : Pointer) (range : Ranged) : Type 0 where
  pub birth : ℕ
  pub target : p ≡ pointer.At birth range.offset
  pub there : is_dead (object_at objects birth).standing ≡ false
  pub size : (object_at objects birth).size ≡ range.size
  pub slots : (object_at objects birth).slots ≡ slots_of forms range

-- the code goes on where the definition does, and traps as it does
abbrev pub Answers : {A : Type 0} → Result Unit TrapKind → Result A Refusal → Type 0
Answers {A} (Ok u) meant = (after : A) × (meant ≡ Ok after)
Answers (Err kind) meant = meant ≡ Err (Trapped kind)

-- What is left

-- as many bytes as before, as many counts, and the same bound on their sum
pub record SameFrame (old new : List ℕ) (before after : Table) : Type 0 where
  pub bytes : length new ≡ length old
  pub counts : length after.counts ≡ length before.counts
  pub most : after.most ≡ before.most

-- n bytes were copied between two objects with these slots: the destination has those that the source had, as through a buffer
pub record IsCopied (d s : List ℕ) (dst src : Ranged) (n : ℕ) (old new : List ℕ) (before after : Table) : Type 0 where
  -- no other byte has changed
  pub bytes : new ≡ bytes_after old dst src n
  -- a byte of it lies in a slot exactly where that of the source does
  pub slots : (k : ℕ) → k < n → touches_slot d (dst.offset + k) 1 ≡ touches_slot s (src.offset + k) 1
  -- the slots within the range have the words that those of the source had
  pub words : words_at new dst.start d ≡ overlaid (words_at old dst.start d) (length (slots_below d dst.offset)) (take (length (slots_within s src.offset n)) (drop (length (slots_below s src.offset)) (words_at old src.start s)))
  -- the counts follow the pointers in the destination
  pub counts : Follow before after (words_at old dst.start d) (words_at new dst.start d)

-- n bytes of an object with these slots were set to one value
pub record IsCleared (d : List ℕ) (dst : Ranged) (byte n : ℕ) (old new : List ℕ) (before after : Table) : Type 0 where
  -- no other byte has changed
  pub bytes : new ≡ overlaid old (dst.start + dst.offset) (replicate n byte)
  -- the slots within the range are null
  pub words : words_at new dst.start d ≡ overlaid (words_at old dst.start d) (length (slots_below d dst.offset)) (replicate (length (slots_within d dst.offset n)) 0)
  -- the counts follow the pointers in it
  pub counts : Follow before after (words_at old dst.start d) (words_at new dst.start d)
