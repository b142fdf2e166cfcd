-- Pins: the registers that count at an instruction.
use Rattle.std.specs.Prelude.{ℕ, List, [], map, unwrap_or}
use Rattle.hs_base.specs.declared.values.Pointer.{Pointer}
use Rattle.hs_base.specs.State.{Frame}
use Rattle.flat_code.specs.declared.program.Code.{Code}
use Rattle.flat_code.specs.Sites.{site_of}
use Rattle.object_meaning.specs.counted.Pinning.{pointer_of_register}

-- those of its site, and none where it has no site
abbrev pub pins_at : Code → Frame → List ℕ
pins_at code frame = unwrap_or (site_of code.sites frame.point) []

-- the pointers that count in a frame
abbrev pub pinned : Code → Frame → List Pointer
pinned code frame = map (pointer_of_register frame) (pins_at code frame)
