use Rattle.core_tree.specs.LayoutsOfTypesEquations.{type_layout_small}
use Rattle.core_tree.proofs.TypeLayouts as layouts
use Rattle.core_tree.proofs.laws.layouts_of_types.Goals as goal

pub returns : goal.returns
returns c = record { sound = layouts.type_layout_sound c.layouts_are_sound.ensures; small = type_layout_small }
