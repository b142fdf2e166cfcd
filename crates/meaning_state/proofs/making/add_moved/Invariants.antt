use Rattle.std.proofs.Common.{◌≡◌, ◌++◌, take}
use Rattle.c_types.specs.Layouts.{moved}
use Rattle.meaning_state.proofs.making.add_moved.Given as goal

abbrev pub invariant-loop-slot : goal.invariant-loop-slot
invariant-loop-slot l = l.all.items ≡ l.initial.all.items ++ moved l.by (take l.slot-index l.slots)
