-- What the code needs of the layout of an element.
use Rattle.std.specs.Prelude.{◌<◌}
use Rattle.c_types.specs.declared.layouts.Layout.{Layout}
use Rattle.c_types.specs.Layouts.{AreSlots}

-- an element has a size, and its slots lie inside it
pub record IsElement (l : Layout) : Type 0 where
  pub some : 0 < l.size
  pub slots : AreSlots 0 l.size l.slots
