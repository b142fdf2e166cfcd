use Rattle.std.proofs.Common.{◌≡◌, ◌*◌}
use Rattle.std.specs.List.{flat_map, range_with_len}
use Rattle.c_types.specs.Layouts.{moved}
use Rattle.meaning_state.proofs.making.element_slots.Given as goal

abbrev pub invariant-loop-k : goal.invariant-loop-k
invariant-loop-k l = l.all.items ≡ flat_map (λ k. moved (k * l.element.size) l.element.slots) (range_with_len 0 l.k)
