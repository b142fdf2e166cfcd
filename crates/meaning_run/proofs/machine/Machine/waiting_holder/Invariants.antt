use Rattle.std.proofs.Common.{◌≡◌, drop}
use Rattle.std.specs.List.{flat_map}
use Rattle.object_meaning.specs.objects.Holding.{in_waiting, first_of}
use Rattle.meaning_run.proofs.machine.Machine.waiting_holder.Given as goal

abbrev pub invariant-loop-i : goal.invariant-loop-i
invariant-loop-i l = first_of (flat_map (in_waiting l.core l.birth) l.self-inside.waiting.items) ≡ first_of (flat_map (in_waiting l.core l.birth) (drop l.i l.self-inside.waiting.items))
