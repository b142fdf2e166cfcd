-- What a found object says of an access to it.
use Rattle.std.proofs.Common.{◌≡◌, ◌<◌, ◌≤◌, ◌+◌, ◌-◌, ◌%◌, ◌∙◌, ℕ, true, false, List, length, get_or, Ok, refl, sym, ap, subst, arith}
use Rattle.std.specs.Prelude.{Contains}
use Rattle.std.proofs.lemmas.Bool.{false_from_ne_true}
use Rattle.std.proofs.lemmas.Option.{slice_get_within, get_or_from_slice_get}
use Rattle.hs_base.specs.declared.ends.TrapKind.TheVariants as trap
use Rattle.hs_base.specs.declared.values.Pointer.{Pointer}
use Rattle.hs_base.specs.declared.values.Pointer.TheVariants as pointer
use Rattle.hs_base.specs.Access.{Place, access_integer, access_pointer, touches_slot, is_slot}
use Rattle.hs_base.specs.Object.{Object, object_at}
use Rattle.adjusters.specs.ObjectSlots.{Element, object_slots}
use Rattle.flat_objects.specs.declared.finding.Found.{Found}
use Rattle.flat_objects.specs.Memory.{Memory, IsMemory, IsForm}
use Rattle.flat_objects.specs.Standing.{IsAt, IsAddressOf}
use Rattle.flat_objects.specs.Keeping.{KeepsAt, HasSlots}
use Rattle.flat_objects.specs.Answering.{Traps}
use Rattle.flat_objects.specs.Reaching.{IsFound, IsReached, IsBarred}
use Rattle.flat_objects.proofs.Ascending.{Ascend, object_has_slots}
use Rattle.flat_objects.proofs.Owners.{own_inside}
use Rattle.flat_objects.proofs.Touching.{slot_is_there, there_is_slot}
use Rattle.flat_objects.proofs.Trying.{barred_bounds, barred_align, place_at, layout_integer, allowed_integer, layout_pointer, allowed_pointer}

-- what is found for an address
abbrev pub Finds : Memory → ℕ → Found → Type 0
Finds memory addr found =
    (places : ℕ → ℕ) (objects : List Object) (birth offset : ℕ) → KeepsAt memory places objects (pointer.At birth offset) addr → IsFound memory places objects birth offset found

module _ (memory : Memory) (places : ℕ → ℕ) (objects : List Object) (addr n : ℕ) (found : Found) (some : 0 < addr) (finds : Finds memory addr found) where
  pub reached_bounds : (p : Pointer) → KeepsAt memory places objects p addr → found.size - found.offset < n → IsBarred objects p n trap.Bounds
  reached_bounds pointer.Null at over = absurd (omega (arith, at.stands))
  reached_bounds (pointer.At birth offset) at over =
      let f = finds places objects birth offset at in
      barred_bounds objects birth offset n at.stands.there (omega (arith, f.size, f.distance, at.stands.inside))

  pub reached_align : (p : Pointer) → KeepsAt memory places objects p addr → n ≤ found.size - found.offset → (found.offset % n ≡ 0 → ⊥) → IsBarred objects p n trap.Align
  reached_align pointer.Null at fits odd = absurd (omega (arith, at.stands))
  reached_align (pointer.At birth offset) at fits odd =
      let f = finds places objects birth offset at in
      barred_align objects birth offset n at.stands.there (omega (arith, f.size, f.distance, at.stands.inside)) (λ e. odd (ap (λ m. m % n) f.distance ∙ e))

  pub reached : (p : Pointer) → KeepsAt memory places objects p addr → n ≤ found.size - found.offset → found.offset % n ≡ 0 → IsReached memory places objects p n found
  reached pointer.Null at fits even = absurd (omega (arith, at.stands))
  reached (pointer.At birth offset) at fits even =
      let f = finds places objects birth offset at in
      record {
        birth = birth;
        target = ap (pointer.At birth) (sym f.distance);
        finds = record { start = f.start; distance = refl; size = f.size; slots = f.slots };
        inside = omega (arith, f.size, f.distance, at.stands.inside);
        aligned = even;
      }

-- the slots of an object are those of the element with the number of its layout
pub slots_are : (forms : List Element) (layout : ℕ) (o : Object) (form : Element) (size : ℕ) → HasSlots forms layout o → form ≡ get_or forms layout form → size ≡ o.size → object_slots form size ≡ o.slots
slots_are forms layout o form size (f, got, is) read size_is =
    let same : form ≡ f = read ∙ get_or_from_slice_get forms layout f form got in
    (λ i. object_slots (same i) (size_is i)) ∙ sym is

pub are_slots : (locals heap : ℕ) (memory : Memory) (layout : ℕ) (o : Object) → IsMemory locals heap memory → HasSlots memory.forms layout o → Ascend 0 o.size o.slots
are_slots locals heap memory layout o shape (form, got, is) =
    let below = slice_get_within memory.forms layout form got in
    let good : IsForm form = subst IsForm (get_or_from_slice_get memory.forms layout form form got) (shape.forms layout form below) in
    subst (Ascend 0 o.size) (sym is) (object_has_slots form o.size good)

module _ (memory : Memory) (places : ℕ → ℕ) (objects : List Object) (p : Pointer) (addr n : ℕ) (found : Found) (at : KeepsAt memory places objects p addr) (r : IsReached memory places objects p n found) where
  pub stands_at : IsAt places objects r.birth found.offset addr
  stands_at = subst (λ (q : Pointer). IsAddressOf places objects q addr) r.target at.stands

  pub reached_inside : (locals heap : ℕ) → IsMemory locals heap memory → addr + n ≤ length memory.bytes
  reached_inside locals heap shape =
      let s = stands_at in
      let inside = own_inside memory places objects at.keeps r.birth s.there locals heap shape in
      omega (arith, s.address, r.inside, r.finds.size)

  module _ (form : Element) (read : form ≡ get_or memory.forms found.layout form) where
    own_slots : object_slots form found.size ≡ (object_at objects r.birth).slots
    own_slots = slots_are memory.forms found.layout (object_at objects r.birth) form found.size r.finds.slots read r.finds.size

    pub layout_trap : touches_slot (object_slots form found.size) found.offset n ≡ true → Traps trap.Layout (access_integer objects p n)
    layout_trap touches =
        let s = stands_at in
        subst (λ (q : Pointer). Traps trap.Layout (access_integer objects q n)) (sym r.target)
        (layout_integer objects r.birth found.offset n s.there (omega (arith, r.inside, r.finds.size)) r.aligned (ap (λ slots. touches_slot slots found.offset n) (sym own_slots) ∙ touches))

    pub let_integers : touches_slot (object_slots form found.size) found.offset n ≡ false → (at : Place) × (access_integer objects p n ≡ Ok at)
    let_integers clear =
        let s = stands_at in (
          place_at r.birth found.offset,
          ap (λ q. access_integer objects q n) r.target
              ∙ allowed_integer objects r.birth found.offset n s.there (omega (arith, r.inside, r.finds.size)) r.aligned (ap (λ slots. touches_slot slots found.offset n) (sym own_slots) ∙ clear),
        )

    pub pointer_trap : n ≡ 4 → (Contains (object_slots form found.size) found.offset → ⊥) → Traps trap.Layout (access_pointer objects p)
    pointer_trap four none =
        let s = stands_at in
        let even : found.offset % 4 ≡ 0 = ap (λ m. found.offset % m) (sym four) ∙ r.aligned in
        let o = object_at objects r.birth in
        subst (λ (q : Pointer). Traps trap.Layout (access_pointer objects q)) (sym r.target)
        (layout_pointer objects r.birth found.offset 4 s.there (omega (arith, r.inside, r.finds.size)) even
        (false_from_ne_true (is_slot o.slots found.offset) (λ h. none (subst (λ (slots : List ℕ). Contains slots found.offset) (sym own_slots) (slot_is_there o.slots found.offset h)))))

    pub let_pointers : n ≡ 4 → Contains (object_slots form found.size) found.offset → (at : Place) × (access_pointer objects p ≡ Ok at)
    let_pointers four some =
        let s = stands_at in
        let even : found.offset % 4 ≡ 0 = ap (λ m. found.offset % m) (sym four) ∙ r.aligned in
        let o = object_at objects r.birth in (
          place_at r.birth found.offset,
          ap (λ q. access_pointer objects q) r.target
              ∙ allowed_pointer objects r.birth found.offset 4 s.there (omega (arith, r.inside, r.finds.size)) even (there_is_slot o.slots found.offset (subst (λ (slots : List ℕ). Contains slots found.offset) own_slots some)),
        )
