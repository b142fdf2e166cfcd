use Rattle.std.proofs.Common.{◌≡◌, take}
use Rattle.hs_base.specs.Access.{distances}
use Rattle.meaning_state.proofs.slots.distances.Given as goal

abbrev pub invariant-loop-slot : goal.invariant-loop-slot
invariant-loop-slot l = l.all.items ≡ distances (take l.slot-index l.slots) l.offset l.n
