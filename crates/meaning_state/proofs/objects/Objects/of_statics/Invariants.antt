use Rattle.std.proofs.Common.{◌≡◌, take, map}
use Rattle.std.specs.List.{enumerate_from}
use Rattle.object_meaning.specs.objects.Making.{static_object}
use Rattle.meaning_state.proofs.objects.Objects.of_statics.Given as goal

abbrev pub invariant-loop-i : goal.invariant-loop-i
invariant-loop-i l = l.list.items ≡ map static_object (enumerate_from 0 (take l.i l.statics))
