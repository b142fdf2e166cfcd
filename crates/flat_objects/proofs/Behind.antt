-- The bytes behind the start of a string.
use Rattle.std.proofs.Common.{◌≡◌, ℕ, ◌+◌, ◌-◌, ◌<◌, ◌≤◌, List, false, Some, Result, Ok, Err, length, get_or, refl, sym, ap, ◌∙◌, arith}
use Rattle.std.specs.Prelude.{slice_index}
use Rattle.hs_base.specs.declared.values.Pointer.{Pointer}
use Rattle.hs_base.specs.declared.values.Pointer.TheVariants as pointer
use Rattle.hs_base.specs.Access.{Place, Refusal, and_then, access_integer, touches_slot}
use Rattle.byte_memory.specs.Bytes.{word}
use Rattle.hs_base.specs.Object.{Object, object_at}
use Rattle.byte_memory.specs.BytesEquations.{word_1}
use Rattle.adjusters.specs.ObjectSlots.{Element, object_slots}
use Rattle.object_meaning.specs.objects.Strings.{behind, byte_behind, room_at}
use Rattle.flat_objects.specs.declared.finding.Found.{Found}
use Rattle.flat_objects.specs.Memory.{Memory, IsMemory}
use Rattle.flat_objects.specs.Standing.{IsAddressOf}
use Rattle.flat_objects.specs.Keeping.{KeepsAt}
use Rattle.flat_objects.specs.Texts.{IsIn, KeepsText, StringByte}
use Rattle.flat_objects.proofs.Owners.{own_inside}
use Rattle.flat_objects.proofs.Reached.{Finds, slots_are}
use Rattle.flat_objects.proofs.Reading.{string_has}
use Rattle.flat_objects.proofs.Trying.{let_integer, allowed_integer}

pub text_of : (memory : Memory) (places : ℕ → ℕ) (objects : List Object) (addr : ℕ) (found : Found) (p : Pointer) → (addr ≡ 0 → ⊥) → Finds memory addr found → KeepsAt memory places objects p addr → KeepsText memory places objects p (Some found)
text_of memory places objects addr found pointer.Null some finds at = absurd (some at.stands)
text_of memory places objects addr found (pointer.At birth offset) some finds at =
    record { keeps = at.keeps; leads = record { there = at.stands.there; inside = at.stands.inside; finds = finds places objects birth offset at } }

-- an object that is there has a pointer to it
pub record InText (memory : Memory) (places : ℕ → ℕ) (objects : List Object) (p : Pointer) (found : Found) : Type 0 where
  pub birth : ℕ
  pub offset : ℕ
  pub target : p ≡ pointer.At birth offset
  pub lies : IsIn memory places objects birth offset found

pub in_text : (memory : Memory) (places : ℕ → ℕ) (objects : List Object) (p : Pointer) (found : Found) → KeepsText memory places objects p (Some found) → InText memory places objects p found
in_text memory places objects pointer.Null found kept = absurd kept.leads
in_text memory places objects (pointer.At birth offset) found kept = record { birth = birth; offset = offset; target = refl; lies = kept.leads }

module _ (locals heap : ℕ) (memory : Memory) (shape : IsMemory locals heap memory) (places : ℕ → ℕ) (objects : List Object) (p : Pointer) where
  module _ (found : Found) (kept : KeepsText memory places objects p (Some found)) (i : ℕ) (less : i < found.size - found.offset) where
    pub behind_inside : found.start + (found.offset + i) + 1 ≤ length memory.bytes
    behind_inside =
        let t = in_text memory places objects p found kept in
        let inside = own_inside memory places objects kept.keeps t.birth t.lies.there locals heap shape in
        omega (arith, t.lies.finds.start, t.lies.finds.size)

    pub behind_is : (form : Element) (w : ℕ) → form ≡ get_or memory.forms found.layout form → touches_slot (object_slots form found.size) (found.offset + i) 1 ≡ false → w ≡ word memory.bytes (found.start + (found.offset + i)) 1 → byte_behind objects p i ≡ Ok w
    behind_is form w read clear w_is =
        let t = in_text memory places objects p found kept in
        let o = object_at objects t.birth in
        let place = t.offset + i in
        let distance : found.offset + i ≡ place = ap (λ n. n + i) t.lies.finds.distance in
        let fits : place + 1 ≤ o.size = omega (arith, t.lies.finds.size, t.lies.finds.distance) in
        let free : touches_slot o.slots place 1 ≡ false =
        (λ j. touches_slot (sym (slots_are memory.forms found.layout o form found.size t.lies.finds.slots read t.lies.finds.size) j) (sym distance j) 1) ∙ clear in
        let stands = kept.keeps.standing t.birth t.lies.there in
        let inside = behind_inside in
        let byte : slice_index o.bytes place ≡ w =
        sym (stands.bytes place (omega arith) free) ∙ ap (slice_index memory.bytes) (λ j. sym t.lies.finds.start j + sym distance j)
        ∙ sym (word_1 memory.bytes (found.start + (found.offset + i)) inside) ∙ sym w_is in
        ap (λ q. byte_behind objects q i) t.target
        ∙ ap (λ r. and_then {B = ℕ} r (λ at. Ok (slice_index (object_at objects at.birth).bytes at.offset))) (allowed_integer objects t.birth place 1 t.lies.there fits (omega arith) free)
        ∙ ap (λ b. let r : Result ℕ Refusal = Ok b in r) byte

  -- a byte that is read of a string is that of the memory
  reached_byte : (r : Result Place Refusal) (v : ℕ) → and_then r (λ at. Ok (slice_index (object_at objects at.birth).bytes at.offset)) ≡ Ok v → (at : Place) × (r ≡ Ok at) × (slice_index (object_at objects at.birth).bytes at.offset ≡ v)
  reached_byte (Ok at) v h = (at, refl, cc)
  reached_byte (Err e) v h = absurd (cc)

pub behind_moved : (places : ℕ → ℕ) (objects : List Object) (p : Pointer) (addr i birth offset : ℕ) → IsAddressOf places objects p addr → behind p i ≡ pointer.At birth offset → addr + i ≡ places birth + offset
behind_moved places objects pointer.Null addr i birth offset stands e = absurd (cc)
behind_moved places objects (pointer.At b x) addr i birth offset stands e =
    let same : b ≡ birth = cc in
    let place : x + i ≡ offset = cc in
    let start : places b ≡ places birth = ap places same in
    omega (arith, stands.address)

module _ (locals heap : ℕ) (memory : Memory) (shape : IsMemory locals heap memory) (places : ℕ → ℕ) (objects : List Object) (p : Pointer) (addr : ℕ) (bytes : List ℕ) (i : ℕ) (string : StringByte memory places objects p addr bytes i) where
  pub string_byte_is : (addr + i + 1 ≤ length memory.bytes) × (slice_index memory.bytes (addr + i) ≡ slice_index bytes i)
  string_byte_is =
      let none : 0 + i ≡ i = omega arith in
      let here : byte_behind objects p i ≡ Ok (slice_index bytes i) = ap (byte_behind objects p) (sym none) ∙ string_has objects p 0 (room_at objects p) bytes i string.string string.more in
      let r = reached_byte locals heap memory shape places objects p (access_integer objects (behind p i) 1) (slice_index bytes i) here in
      let at = r.0 in
      let o = object_at objects at.birth in
      let h = let_integer objects (behind p i) 1 at r.1 in
      let place = behind_moved places objects p addr i at.birth at.offset string.at.stands h.let_through.target in
      let stands = string.at.keeps.standing at.birth h.let_through.there in
      let inside = own_inside memory places objects string.at.keeps at.birth h.let_through.there locals heap shape in
      let fits = h.let_through.inside in
      (omega arith, ap (slice_index memory.bytes) place ∙ stands.bytes at.offset (omega arith) h.clear ∙ r.2)
