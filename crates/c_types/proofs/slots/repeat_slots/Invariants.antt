use Rattle.std.proofs.Common.{◌≡◌, ◌++◌, ◌-◌, ◌*◌, drop}
use Rattle.std.specs.List.{flat_map, range_with_len}
use Rattle.c_types.specs.Layouts.{moved}
use Rattle.c_types.proofs.slots.repeat_slots.Given as goal

abbrev pub invariant-loop-k : goal.invariant-loop-k
invariant-loop-k l =
    l.slots.items
    ≡ l.initial.slots.items ++ flat_map (λ k. moved (k * l.size) (drop l.start l.initial.slots.items)) (range_with_len 1 (l.k - 1))
