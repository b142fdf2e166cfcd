-- A layout that a type has is sound.
use Rattle.std.proofs.Common.{◌≡◌, List, Some}
use Rattle.c_types.specs.declared.layouts.Layout.{Layout}
use Rattle.c_types.specs.Types.{PlainType}
use Rattle.c_types.specs.Layouts.{IsSound, layout_of}
use Rattle.c_types.specs.TagTable.{CompletedTag, known}
use Rattle.core_tree.specs.LayoutsOfTypes.{IsLayoutOfType}

-- the layouts of types over completed tags are sound: the law `layouts_are_sound` of `c_types`
pub type_layout_sound : ((tags : List CompletedTag) (t : PlainType) (l : Layout) → layout_of (known tags) t ≡ Some l → IsSound l) →
    (l : Layout) → IsLayoutOfType l → IsSound l
type_layout_sound sound l h = sound h.tags h.type l h.layout
