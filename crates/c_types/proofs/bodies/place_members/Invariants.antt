use Rattle.std.proofs.Common.{◌≡◌, ◌++◌, length, map}
use Rattle.std.specs.Vec.Iter.{into_iter_items, into_iter_len}
use Rattle.c_types.specs.TagTable.{known, plain_pair}
use Rattle.c_types.specs.Placing.{IsPlacedSoFar, pairs}
use Rattle.c_types.proofs.bodies.place_members.Given as goal

abbrev pub invariant-loop-name : goal.invariant-loop-name
invariant-loop-name l = record {
  order : l.yielded ++ into_iter_items l.name-iterator ≡ into_iter_items l.initial.name-iterator;
  len : into_iter_len l.name-iterator ≡ length (into_iter_items l.name-iterator);
  so_far : IsPlacedSoFar (known l.tags.completed) l.is_union l.placing;
  pairs : pairs l.placing ≡ map plain_pair l.yielded;
}
