use Rattle.std.proofs.Common.{◌≡◌, map, take}
use Rattle.elab_core.specs.StaticsBy.{pointer_by}
use Rattle.elab_core.proofs.statics.pointers.Given as goal

abbrev pub invariant-loop-item : goal.invariant-loop-item
invariant-loop-item l = l.numbered ≡ map (pointer_by l.variables) (take l.item-index l.list)
