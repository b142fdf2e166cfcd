use Rattle.std.proofs.Common.{◌≡◌, take, map}
use Rattle.object_meaning.specs.objects.Making.{first_pointer}
use Rattle.meaning_state.proofs.making.first_pointers.Given as goal

abbrev pub invariant-loop-slot : goal.invariant-loop-slot
invariant-loop-slot l = l.all.items ≡ map (first_pointer l.start.pointers) (take l.slot-index l.slots)
