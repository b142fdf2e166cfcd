use Rattle.std.proofs.Common.{◌≡◌, take}
use Rattle.std.specs.Prelude.{map}
use Rattle.adjusters.specs.ObjectSlots.{element_of}
use Rattle.flat_objects.proofs.statics.forms_of.Given as goal

abbrev pub invariant-loop-layout : goal.invariant-loop-layout
invariant-loop-layout l = l.forms ≡ map element_of (take l.layout-index l.layouts)
