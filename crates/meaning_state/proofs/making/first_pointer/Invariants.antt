use Rattle.std.proofs.Common.{◌≡◌, drop}
use Rattle.object_meaning.specs.objects.Making.{first_pointer}
use Rattle.meaning_state.proofs.making.first_pointer.Given as goal

abbrev pub invariant-loop-p : goal.invariant-loop-p
invariant-loop-p l = first_pointer l.pointers l.slot ≡ first_pointer (drop l.p-index l.pointers) l.slot
