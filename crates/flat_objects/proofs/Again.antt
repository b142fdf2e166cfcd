-- An object in other bytes, which are the same from its start to its end.
use Rattle.std.proofs.Common.{◌≡◌, ◌<◌, ◌≤◌, ◌+◌, ◌-◌, ◌∙◌, ℕ, List, length, sym, ap, subst, arith}
use Rattle.std.specs.Prelude.{slice_index, slice_index_or}
use Rattle.std.proofs.lemmas.List.{get_or_default}
use Rattle.hs_base.specs.declared.values.Pointer.TheVariants as pointer
use Rattle.hs_base.specs.Access.{little_endian}
use Rattle.byte_memory.specs.Bytes.{part, word}
use Rattle.hs_base.specs.Object.{Object, Standing}
use Rattle.byte_memory.specs.BytesEquations.{word_1}
use Rattle.adjusters.specs.ObjectSlots.{Element}
use Rattle.heap_blocks.specs.Heads.{header_at}
use Rattle.byte_marks.specs.Marks.{IsMarked, MarksModel}
use Rattle.flat_objects.specs.Memory.{Memory, heap_of, range_of}
use Rattle.flat_objects.specs.Standing.{IsAddressOf}
use Rattle.flat_objects.specs.Keeping.{StandsAt, IsHeaderOf, HasSlots}
use Rattle.flat_objects.proofs.Ascending.{Ascend, slot_ends}

-- Parts

pub word_from : (a b : List ℕ) (at n : ℕ) → part a at n ≡ part b at n → word a at n ≡ word b at n
unfolding word
word_from a b at n same = ap little_endian same

pub byte_from : (a b : List ℕ) (at : ℕ) → at < length a → at < length b → part a at 1 ≡ part b at 1 → slice_index a at ≡ slice_index b at
byte_from a b at in_a in_b same =
    sym (word_1 a at (omega arith)) ∙ word_from a b at 1 same ∙ word_1 b at (omega arith)

-- all parts of n bytes from an address on are the same
abbrev pub SameWithin : List ℕ → List ℕ → ℕ → ℕ → Type 0
SameWithin after before from n =
    (at m : ℕ) → from ≤ at → at + m ≤ from + n → part after at m ≡ part before at m

pub header_from : (before after : List ℕ) (block : ℕ) → SameWithin after before block 32 → header_at after block ≡ header_at before block
header_from before after block same =
    let birth = word_from after before block 8 (same block 8 (omega arith) (omega arith)) in
    let size = word_from after before (block + 8) 4 (same (block + 8) 4 (omega arith) (omega arith)) in
    let layout = word_from after before (block + 12) 4 (same (block + 12) 4 (omega arith) (omega arith)) in
    let line = word_from after before (block + 16) 4 (same (block + 16) 4 (omega arith) (omega arith)) in
    let state = word_from after before (block + 20) 4 (same (block + 20) 4 (omega arith) (omega arith)) in
    let freed = word_from after before (block + 24) 4 (same (block + 24) 4 (omega arith) (omega arith)) in
    let next = word_from after before (block + 28) 4 (same (block + 28) 4 (omega arith) (omega arith)) in
    λ i. record { birth = birth i; size = size i; layout = layout i; line = line i; state = state i; freed = freed i; next = next i }

-- The object

pub stands_again : (memory next : Memory) (places : ℕ → ℕ) (objects after : List Object) (birth : ℕ) (o : Object) (s : Standing) → StandsAt memory places objects birth (places birth) o → (heap_of next (range_of o.sort)).base ≡ (heap_of memory (range_of o.sort)).base → next.forms ≡ memory.forms → next.marks ≡ memory.marks → length next.bytes ≡ length memory.bytes
    → IsHeaderOf (header_at next.bytes (places birth - 32)) birth (record o { standing = s }) → (header_at next.bytes (places birth - 32)).layout ≡ (header_at memory.bytes (places birth - 32)).layout → places birth + o.size ≤ length memory.bytes → SameWithin next.bytes memory.bytes (places birth) o.size → Ascend 0 o.size o.slots
    → ((k a : ℕ) → k < length o.slots → IsAddressOf places objects (slice_index_or o.pointers k pointer.Null) a → IsAddressOf places after (slice_index_or o.pointers k pointer.Null) a) → StandsAt next places after birth (places birth) (record o { standing = s })
stands_again memory next places objects after birth o s old base forms marks long header layout inside same slots addresses = record {
  room = omega (arith, old.room);
  header = header;
  slots = subst (λ (n : ℕ). HasSlots next.forms n o) (sym layout) (subst (λ (f : List Element). HasSlots f (header_at memory.bytes (places birth - 32)).layout o) (sym forms) old.slots);
  long = old.long;
  bytes = λ k less clear.
      byte_from next.bytes memory.bytes (places birth + k) (omega arith) (omega arith) (same (places birth + k) 1 (omega arith) (omega arith)) ∙ old.bytes k less clear;
  many = old.many;
  pointers = λ k less.
      let slot = slice_index o.slots k in
      let ends = slot_ends 0 o.size o.slots slot slots (k, less, get_or_default o.slots k slot 0 less) in
      let here = word_from next.bytes memory.bytes (places birth + slot) 4 (same (places birth + slot) 4 (omega arith) (omega arith)) in
      subst (IsAddressOf places after (slice_index_or o.pointers k pointer.Null)) (sym here)
      (addresses k (word memory.bytes (places birth + slot) 4) less (old.pointers k less));
  marks = subst (λ (m : MarksModel). IsMarked m (places birth) o.size o.slots) (sym marks) old.marks;
}
