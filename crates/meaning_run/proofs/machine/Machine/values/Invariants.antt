use Rattle.std.proofs.Common.{◌≡◌, map, take}
use Rattle.object_meaning.specs.objects.Values.{value_of}
use Rattle.meaning_run.proofs.machine.Machine.values.Given as goal

abbrev pub invariant-loop-atom : goal.invariant-loop-atom
invariant-loop-atom l = l.values.items ≡ map (value_of l.self.running) (take l.atom-index l.atoms)
