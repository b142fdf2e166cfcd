-- The slots of an object.
use Rattle.std.specs.Prelude.{◌*◌, ◌/◌, ℕ, List, refl}
use Rattle.std.specs.List.{flat_map, range_with_len}
use Rattle.std.specs.Coded.{Coded, code_by, coded×, coded_list, coded_ℕ}
use Rattle.c_types.specs.declared.layouts.Layout.{Layout}
use Rattle.c_types.specs.Layouts.{moved}

-- the size of an element and the slots in it
pub record Element : Type 0 where
  pub size : ℕ
  pub slots : List ℕ

abbrev pub element_of : Layout → Element
element_of layout = record { size = layout.size; slots = layout.slots }

-- the slots of each whole element in turn; an element without a size has none
abbrev pub object_slots : Element → ℕ → List ℕ
object_slots element size = flat_map (λ k. moved (k * element.size) element.slots) (range_with_len 0 (size / element.size))

abbrev pub element_code : Coded Element
element_code =
    code_by (ℕ × List ℕ) (coded× coded_ℕ (coded_list coded_ℕ)) (λ e. (e.size, e.slots)) (λ p. record { size = p.0; slots = p.1 }) (λ _. refl)
