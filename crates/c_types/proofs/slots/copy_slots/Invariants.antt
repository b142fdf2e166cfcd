use Rattle.std.proofs.Common.{◌≡◌, ◌++◌, ◌-◌, take, drop}
use Rattle.c_types.specs.Layouts.{moved}
use Rattle.c_types.proofs.slots.copy_slots.Given as goal

abbrev pub invariant-loop-place : goal.invariant-loop-place
invariant-loop-place l = l.slots.items ≡ l.initial.slots.items ++ moved l.by (take (l.place - l.start) (drop l.start l.initial.slots.items))
