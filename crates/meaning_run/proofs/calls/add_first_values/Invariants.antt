use Rattle.std.proofs.Common.{◌≡◌, ◌++◌, map, take}
use Rattle.object_meaning.specs.objects.Values.{first_value}
use Rattle.meaning_run.proofs.calls.add_first_values.Given as goal

abbrev pub invariant-loop-i : goal.invariant-loop-i
invariant-loop-i l = l.regs.items ≡ l.initial.regs.items ++ map first_value (take l.i l.registers)
