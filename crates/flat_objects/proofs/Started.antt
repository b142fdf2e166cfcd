-- The first bytes and pointers of statics.
use Rattle.std.proofs.Common.{◌≡◌, ◌<◌, ◌≤◌, ◌+◌, ◌^◌, ◌-◌, inl, inr, ℕ, zero, suc, List, length, drop, sym, ap, ◌∙◌, refl, subst, arith, length-append, length-drop}
use Rattle.std.specs.Prelude.{slice_index, slice_index_or, slice_get, unwrap_or}
use Rattle.std.proofs.lemmas.Bool.{cases_lt}
use Rattle.std.proofs.lemmas.List.{get_or_append_left, get_or-append_right, get_or-drop, get_or_default}
use Rattle.std.proofs.lemmas.Option.{unwrap_or-slice_get}
use Rattle.hs_base.specs.declared.values.Pointer.{Pointer}
use Rattle.hs_base.specs.declared.values.Pointer.TheVariants as pointer
use Rattle.hs_base.specs.Access.{overlaid, with_object}
use Rattle.byte_memory.specs.Bytes.{word, put_word}
use Rattle.hs_base.specs.Object.{Object, object_at}
use Rattle.byte_memory.specs.BytesEquations.{word_1, word_same, word_more, length-put_word}
use Rattle.heap_blocks.specs.Bytes.{ChangesOnly}
use Rattle.flat_objects.specs.Memory.{Memory, IsMemory}
use Rattle.flat_objects.specs.Standing.{IsAddressOf}
use Rattle.flat_objects.specs.Answering.{IsChanged}
use Rattle.flat_objects.specs.Counting.{Frees, Tracks}
use Rattle.flat_objects.specs.Starting.{IsWritten, TakesBytes, with_first_bytes}
use Rattle.flat_objects.proofs.Added.{word_zero}
use Rattle.flat_objects.proofs.Ascending.{slot_ends}
use Rattle.flat_objects.proofs.Changing.{StandsNew, with_bytes, changed, byte_kept}
use Rattle.flat_objects.proofs.Owners.{own_inside}
use Rattle.flat_objects.proofs.Reached.{are_slots}
use Rattle.flat_objects.proofs.Stored.{byte_before, changes_within}
use Rattle.flat_objects.proofs.Tracked.{tracks_within}

-- Bytes that are written one after another

pub changes_again : (a b c : List ℕ) (addr n : ℕ) → ChangesOnly a b addr n → ChangesOnly b c addr n → ChangesOnly a c addr n
changes_again a b c addr n one other = record {
  long = other.long ∙ one.long;
  below = λ from k h. other.below from k h ∙ one.below from k h;
  above = λ from k h. other.above from k h ∙ one.above from k h;
}

pub changes_none : (a : List ℕ) (addr n : ℕ) → ChangesOnly a a addr n
changes_none a addr n = record { long = refl; below = λ from k h. refl; above = λ from k h. refl }

pub changes_more : (a b : List ℕ) (addr n m : ℕ) → n ≤ m → ChangesOnly a b addr n → ChangesOnly a b addr m
changes_more a b addr n m more changes = record {
  long = changes.long;
  below = changes.below;
  above = λ from k h. changes.above from k (omega arith);
}

-- so many bytes were written from an address on
pub record IsWrittenTo (before after : List ℕ) (start : ℕ) (bytes : List ℕ) (n : ℕ) : Type 0 where
  pub changes : ChangesOnly before after start (length bytes)
  pub same : (k : ℕ) → k < n → slice_index after (start + k) ≡ slice_index bytes k

pub written_none : (bytes : List ℕ) (start : ℕ) (new : List ℕ) → IsWrittenTo bytes bytes start new 0
written_none bytes start new = record { changes = changes_none bytes start (length new); same = λ k less. absurd (omega arith) }

pub written_more : (before after : List ℕ) (start : ℕ) (bytes : List ℕ) (n : ℕ) (byte : ℕ) → IsWrittenTo before after start bytes n → start + length bytes ≤ length before → n < length bytes → byte ≡ slice_index bytes n → byte < 256 → IsWrittenTo before (put_word after (start + n) 1 byte) start bytes (n + 1)
written_more before after start bytes n byte w inside less byte_is small =
    let long = w.changes.long in
    let here : start + n + 1 ≤ length after = omega arith in
    record {
      changes = changes_again before after (put_word after (start + n) 1 byte) start (length bytes) w.changes (changes_within after (start + n) 1 byte here start (length bytes) (omega arith) (omega arith));
      same = λ k below.
          elim (cases_lt k n) [
            | inl h ↦ byte_before after (start + n) 1 byte here (start + k) (omega arith) ∙ w.same k h
            | inr h ↦
                let e : k ≡ n = omega arith in
                ap (λ m. slice_index (put_word after (start + n) 1 byte) (start + m)) e
                ∙ sym (word_1 (put_word after (start + n) 1 byte) (start + n) (omega (arith, length-put_word after (start + n) 1 byte here)))
                ∙ word_same after (start + n) 1 byte here small ∙ byte_is ∙ ap (slice_index bytes) (sym e)
          ];
    }

pub written_all : (before after : List ℕ) (start : ℕ) (bytes : List ℕ) (n : ℕ) → IsWrittenTo before after start bytes n → length bytes ≤ n → IsWritten before after start bytes
written_all before after start bytes n w all = record { changes = w.changes; same = λ k less. w.same k (omega arith) }

-- The object with its first bytes

byte_of_front : (own bytes : List ℕ) (k : ℕ) → k < length bytes → slice_index (overlaid own 0 bytes) k ≡ slice_index bytes k
byte_of_front own bytes k less = get_or_append_left bytes (drop (0 + length bytes) own) 0 k less

byte_of_rest : (own bytes : List ℕ) (k : ℕ) → length bytes ≤ k → slice_index (overlaid own 0 bytes) k ≡ slice_index own k
byte_of_rest own bytes k past =
    let place : 0 + length bytes + (k - length bytes) ≡ k = omega arith in
    get_or-append_right bytes (drop (0 + length bytes) own) (length bytes) k 0 refl past ∙ get_or-drop (0 + length bytes) own (k - length bytes) 0 ∙ ap (slice_index own) place

length_overlaid : (own bytes : List ℕ) → length bytes ≤ length own → length (overlaid own 0 bytes) ≡ length own
length_overlaid own bytes less = omega (arith, length-append bytes (drop (0 + length bytes) own), length-drop (0 + length bytes) own)

-- each byte of a word that is 0 is 0
zero_word_byte : (bytes : List ℕ) (at n k : ℕ) → at + n ≤ length bytes → word bytes at n ≡ 0 → k < n → slice_index bytes (at + k) ≡ 0
zero_word_byte bytes at zero k inside none less = absurd (omega arith)
zero_word_byte bytes at (suc n) zero inside none less =
    let e : at + 0 ≡ at = omega arith in
    let all = word_more bytes at (at + 1) n refl (omega arith) in
    ap (slice_index bytes) e ∙ omega arith
zero_word_byte bytes at (suc n) (suc k) inside none less =
    let e : at + suc k ≡ at + 1 + k = omega arith in
    let all = word_more bytes at (at + 1) n refl (omega arith) in
    ap (slice_index bytes) e ∙ zero_word_byte bytes (at + 1) n k (omega arith) (omega arith) (omega arith)

module _ (locals heap : ℕ) (memory : Memory) (shape : IsMemory locals heap memory) (places : ℕ → ℕ) (objects : List Object) (birth addr : ℕ) (bytes : List ℕ) (takes : TakesBytes memory places objects birth addr bytes) where
  pub taken_inside : addr + length bytes ≤ length memory.bytes
  taken_inside =
      let inside = own_inside memory places objects takes.keeps birth takes.there locals heap shape in
      omega (arith, takes.address, takes.fits.inside)

  pub taken_small : addr + length bytes < 2 ^ 32
  taken_small = let inside = taken_inside in omega (arith, shape.reach)

  module _ (after : List ℕ) (written : IsWritten memory.bytes after (places birth) bytes) where
    abbrev new : Object
    new = with_first_bytes (object_at objects birth) bytes

    -- a byte of a slot is 0
    slot_zero : (slot i : ℕ) (k : ℕ) → slot ≡ slice_index (object_at objects birth).slots k → k < length (object_at objects birth).slots → slot + 4 ≤ (object_at objects birth).size → i < 4 → slice_index after (places birth + slot + i) ≡ 0
    slot_zero slot i k slot_is less ends small =
        let o = object_at objects birth in
        let old = takes.keeps.standing birth takes.there in
        let start = places birth in
        let inside = own_inside memory places objects takes.keeps birth takes.there locals heap shape in
        let place : start + slot + i ≡ start + (slot + i) = omega arith in
        elim (cases_lt (slot + i) (length bytes)) [
          | inl h ↦
              ap (slice_index after) place ∙ written.same (slot + i) h ∙ sym (unwrap_or-slice_get bytes (slot + i) 0)
              ∙ ap (λ s. unwrap_or (slice_get bytes (s + i)) 0) slot_is ∙ takes.fits.zeros k 0 less i small
          | inr h ↦
              let null : slice_index_or o.pointers k pointer.Null ≡ pointer.Null = takes.fits.null k pointer.Null (omega (arith, old.many)) in
              let none : word memory.bytes (start + slice_index o.slots k) 4 ≡ 0 = subst (λ (p : Pointer). IsAddressOf places objects p (word memory.bytes (start + slice_index o.slots k) 4)) null (old.pointers k less) in
              let none_here : word memory.bytes (start + slot) 4 ≡ 0 = ap (λ s. word memory.bytes (start + s) 4) slot_is ∙ none in
              byte_kept memory.bytes after start (length bytes) (start + slot + i) written.changes (inr (omega arith)) (omega arith)
              ∙ zero_word_byte memory.bytes (start + slot) 4 i (omega arith) none_here small
        ]

    new_bytes_stand : StandsNew after places (with_object objects birth new) (places birth) new
    new_bytes_stand =
        let o = object_at objects birth in
        let old = takes.keeps.standing birth takes.there in
        let start = places birth in
        let inside = own_inside memory places objects takes.keeps birth takes.there locals heap shape in
        let slots = are_slots locals heap memory _ o shape old.slots in
        record {
          long = length_overlaid o.bytes bytes (omega (arith, old.long, takes.fits.inside)) ∙ old.long;
          same = λ k less free.
              elim (cases_lt k (length bytes)) [
                | inl h ↦ written.same k h ∙ sym (byte_of_front o.bytes bytes k h)
                | inr h ↦ byte_kept memory.bytes after start (length bytes) (start + k) written.changes (inr (omega arith)) (omega arith) ∙ old.bytes k less free ∙ sym (byte_of_rest o.bytes bytes k h)
              ];
          many = old.many;
          pointers = λ k less.
              let slot = slice_index o.slots k in
              let ends = slot_ends 0 o.size o.slots slot slots (k, less, get_or_default o.slots k slot 0 less) in
              let null : slice_index_or o.pointers k pointer.Null ≡ pointer.Null = takes.fits.null k pointer.Null (omega (arith, old.many)) in
              let none : word after (start + slot) 4 ≡ 0 = word_zero after (start + slot) 4 (omega (arith, written.changes.long)) (λ i small. slot_zero slot i k refl less ends small) in
              subst (λ (p : Pointer). IsAddressOf places (with_object objects birth new) p (word after (start + slot) 4)) (sym null) none;
        }

    pub bytes_started : IsChanged (with_bytes memory after) places objects (with_object objects birth new)
    bytes_started =
        changed locals heap memory shape places objects takes.keeps birth takes.there new (record { sort = refl; size = refl; slots = refl; standing = refl }) after
        (changes_more memory.bytes after (places birth) (length bytes) (object_at objects birth).size takes.fits.inside written.changes) new_bytes_stand

    pub bytes_tracked : (frees : Frees) → Tracks memory places objects frees → Tracks (with_bytes memory after) places (with_object objects birth new) frees
    bytes_tracked frees tracks =
        tracks_within locals heap memory shape places objects takes.keeps birth takes.there new (record { sort = refl; size = refl; slots = refl; standing = refl }) after
        (changes_more memory.bytes after (places birth) (length bytes) (object_at objects birth).size takes.fits.inside written.changes) bytes_started frees tracks refl
