-- What is found for an address, as a range of an object.
use Rattle.std.proofs.Common.{◌≡◌, ◌<◌, ◌≤◌, ◌∙◌, ℕ, List, [], sym, ap, arith}
use Rattle.std.proofs.lemmas.Option.{slice_get_within, get_or_from_slice_get}
use Rattle.hs_base.specs.declared.values.Pointer.{Pointer}
use Rattle.hs_base.specs.declared.values.Pointer.TheVariants as pointer
use Rattle.hs_base.specs.Object.{Object, object_at}
use Rattle.adjusters.specs.ObjectSlots.{Element, object_slots}
use Rattle.typed_copies.specs.declared.Ranged.{Ranged}
use Rattle.typed_copies.specs.Copying.{IsInside}
use Rattle.flat_objects.specs.declared.finding.Found.{Found}
use Rattle.flat_objects.specs.Memory.{Memory, IsMemory}
use Rattle.flat_objects.specs.Keeping.{KeepsAt}
use Rattle.flat_objects.specs.Ranges.{IsRangeAt}
use Rattle.flat_objects.proofs.Owners.{own_inside}
use Rattle.flat_objects.proofs.Reached.{Finds}

abbrev pub range_of_found : Found → Ranged
range_of_found found = record { start = found.start; size = found.size; offset = found.offset; form = found.layout }

no_element : Element
no_element = record { size = 0; slots = [] }

module _ (memory : Memory) (places : ℕ → ℕ) (objects : List Object) (addr : ℕ) (found : Found) (some : 0 < addr) (finds : Finds memory addr found) where
  pub found_range : (p : Pointer) → KeepsAt memory places objects p addr → IsRangeAt memory places objects p (range_of_found found)
  unfolding no_element
  found_range pointer.Null at = absurd (omega (arith, at.stands))
  found_range (pointer.At birth offset) at =
      let f = finds places objects birth offset at in
      let element : f.slots.0 ≡ _ = sym (get_or_from_slice_get memory.forms found.layout f.slots.0 no_element f.slots.1) in
      let size : (object_at objects birth).size ≡ found.size = sym f.size in
      record {
        lies = record {
          birth = birth;
          target = ap (pointer.At birth) (sym f.distance);
          there = at.stands.there;
          size = size;
          slots = f.slots.2 ∙ (λ i. object_slots (element i) (size i));
        };
        start = f.start;
      }

  pub found_inside : (locals heap : ℕ) → IsMemory locals heap memory → found.offset ≤ found.size → (p : Pointer) → KeepsAt memory places objects p addr → IsInside memory.forms memory.bytes (range_of_found found)
  found_inside locals heap shape inside pointer.Null at = absurd (omega (arith, at.stands))
  found_inside locals heap shape inside (pointer.At birth offset) at =
      let f = finds places objects birth offset at in
      let own = own_inside memory places objects at.keeps birth at.stands.there locals heap shape in
      record {
        end = omega (arith, f.start, f.size);
        offset = inside;
        form = slice_get_within memory.forms found.layout f.slots.0 f.slots.1;
      }
