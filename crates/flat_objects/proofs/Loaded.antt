-- What is read of an object.
use Rattle.std.proofs.Common.{◌≡◌, ◌<◌, ◌≤◌, ◌+◌, ◌∙◌, ℕ, ℤ, pos, false, List, length, get_or, Ok, Err, Result, refl, sym, ap, subst, arith}
use Rattle.std.specs.Prelude.{slice_index}
use Rattle.std.proofs.lemmas.Bool.{cond-false}
use Rattle.std.proofs.lemmas.List.{get_or_default}
use Rattle.hs_base.specs.declared.ends.IntKind.{IntKind}
use Rattle.hs_base.specs.declared.values.Pointer.{Pointer}
use Rattle.hs_base.specs.declared.values.Pointer.TheVariants as pointer
use Rattle.hs_base.specs.declared.values.Value.{Value}
use Rattle.hs_base.specs.Access as access
use Rattle.hs_base.specs.Access.{Place, Refusal, ReadsDead, and_then, access_integer, access_pointer, integer_at, little_endian, touches_slot, slots_below}
use Rattle.byte_memory.specs.Bytes.{word, part}
use Rattle.hs_base.specs.Numbers.{width, wrapped}
use Rattle.hs_base.specs.Object.{Object, object_at}
use Rattle.object_meaning.specs.objects.Values.{number, address, is_stale}
use Rattle.object_meaning.specs.objects.Memory.{loaded, loaded_pointer, unless_stale}
use Rattle.flat_objects.specs.Memory.{Memory, IsMemory}
use Rattle.flat_objects.specs.Standing.{IsAt, IsAddressOf}
use Rattle.flat_objects.specs.Keeping.{KeepsAt, StandsAt}
use Rattle.flat_objects.proofs.Ascending.{below_slot}
use Rattle.flat_objects.proofs.Owners.{own_inside}
use Rattle.flat_objects.proofs.Reached.{are_slots}
use Rattle.flat_objects.proofs.Touching.{untouched_part, slot_is_there}
use Rattle.flat_objects.proofs.Trying.{Let, let_integer, let_pointer}
use Rattle.flat_objects.proofs.Wording.{word_same_bytes}

-- a word outside the slots is that of the object's bytes
pub object_word : (memory : Memory) (places : ℕ → ℕ) (objects : List Object) (birth addr offset n : ℕ) (o : Object) → StandsAt memory places objects birth addr o → addr + o.size ≤ length memory.bytes → offset + n ≤ o.size → touches_slot o.slots offset n ≡ false
    → word memory.bytes (addr + offset) n ≡ word o.bytes offset n
object_word memory places objects birth addr offset n o stands inside fits clear =
    word_same_bytes memory.bytes o.bytes (addr + offset) offset n (omega arith) (omega (arith, stands.long))
    (λ i less. let place : addr + offset + i ≡ addr + (offset + i) = omega arith in
    ap (λ k. get_or memory.bytes k 0) place ∙ stands.bytes (offset + i) (omega arith) (untouched_part o.slots offset n (offset + i) 1 (omega arith) (omega arith) clear))

integer_word : (kind : IntKind) (o : Object) (offset : ℕ) → integer_at kind o offset ≡ wrapped kind (pos (word o.bytes offset (width kind)))
unfolding word part
integer_word kind o offset = refl

module _ (locals heap : ℕ) (memory : Memory) (shape : IsMemory locals heap memory) (places : ℕ → ℕ) (objects : List Object) (p : Pointer) (addr : ℕ) (at : KeepsAt memory places objects p addr) where
  module _ (n : ℕ) (place : Place) (through : Let objects p n place) where
    pub let_stands : IsAt places objects place.birth place.offset addr
    let_stands = subst (λ (q : Pointer). IsAddressOf places objects q addr) through.target at.stands

    pub let_inside : places place.birth + (object_at objects place.birth).size < length memory.bytes
    let_inside = own_inside memory places objects at.keeps place.birth through.there locals heap shape

  pub loaded_is : (kind : IntKind) (place : Place) (w : ℕ) (z : ℤ) → access_integer objects p (width kind) ≡ Ok place → w ≡ word memory.bytes addr (width kind) → z ≡ wrapped kind (pos w) → loaded objects kind p ≡ Ok (number z)
  loaded_is kind place w z allowed w_is z_is =
      let n = width kind in
      let o = object_at objects place.birth in
      let h = let_integer objects p n place allowed in
      let s = let_stands n place h.let_through in
      let stands = at.keeps.standing place.birth h.let_through.there in
      let inside = let_inside n place h.let_through in
      let same : word memory.bytes addr n ≡ word o.bytes place.offset n =
      ap (λ a. word memory.bytes a n) s.address ∙ object_word memory places objects place.birth (places place.birth) place.offset n o stands (omega arith) h.let_through.inside h.clear in
      ap (λ r. and_then {B = Value} r (λ at. Ok (number (integer_at kind (object_at objects at.birth) at.offset)))) allowed
      ∙ ap (λ m. let answer : Result Value Refusal = Ok (number m) in answer) (integer_word kind o place.offset ∙ ap (λ w. wrapped kind (pos w)) (sym same ∙ sym w_is) ∙ sym z_is)

  fresh : (q : Pointer) (w : ℕ) → IsAddressOf places objects q w → is_stale objects q ≡ false
  fresh pointer.Null w h = refl
  fresh (pointer.At birth offset) w h = h.there

  pub loaded_pointer_is : (place : Place) (w : ℕ) → access_pointer objects p ≡ Ok place → w ≡ word memory.bytes addr 4 → (q : Pointer) × (loaded_pointer objects p ≡ Ok (address q)) × IsAddressOf places objects q w
  loaded_pointer_is place w allowed w_is =
      let o = object_at objects place.birth in
      let h = let_pointer objects p place allowed in
      let s = let_stands 4 place h.let_through in
      let stands = at.keeps.standing place.birth h.let_through.there in
      let some = slot_is_there o.slots place.offset h.slot in
      let k = some.0 in
      let slot : slice_index o.slots k ≡ place.offset = get_or_default o.slots k 0 place.offset some.1 ∙ some.2 in
      let q = access.pointer_at o place.offset in
      let number_is : length (slots_below o.slots place.offset) ≡ k =
      ap (λ s. length (slots_below o.slots s)) (sym some.2) ∙ below_slot 0 o.size o.slots k place.offset (are_slots locals heap memory _ o shape stands.slots) some.1 in
      let word_is : word memory.bytes (places place.birth + slice_index o.slots k) 4 ≡ w =
      ap (λ s. word memory.bytes (places place.birth + s) 4) slot ∙ ap (λ a. word memory.bytes a 4) (sym s.address) ∙ sym w_is in
      let stands_for : IsAddressOf places objects q w =
      subst (λ (m : ℕ). IsAddressOf places objects (get_or o.pointers m pointer.Null) w) (sym number_is) (subst (IsAddressOf places objects (get_or o.pointers k pointer.Null)) word_is (stands.pointers k some.1)) in (
        q,
        ap (λ r. and_then {B = Value} r (λ at. unless_stale objects (access.pointer_at (object_at objects at.birth) at.offset))) allowed
            ∙ cond-false (is_stale objects q) (Err ReadsDead) (Ok (address q)) (fresh q w stands_for),
        stands_for,
      )
