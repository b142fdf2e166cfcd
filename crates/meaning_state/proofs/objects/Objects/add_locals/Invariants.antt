use Rattle.std.proofs.Common.{◌≡◌, ◌++◌, take, map}
use Rattle.std.specs.List.{enumerate_from}
use Rattle.object_meaning.specs.objects.Making.{local_object}
use Rattle.meaning_state.proofs.objects.Objects.add_locals.Given as goal

abbrev pub invariant-loop-i : goal.invariant-loop-i
invariant-loop-i l = l.self-inside.list.items ≡ l.initial.self-inside.list.items ++ map (local_object l.func) (enumerate_from 0 (take l.i l.mems))
