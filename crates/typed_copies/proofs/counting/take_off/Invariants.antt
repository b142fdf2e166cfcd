use Rattle.std.proofs.Common.{◌+◌, ◌*◌, ◌≤◌, [], take}
use Rattle.adjusters.specs.ObjectSlots.{object_slots}
use Rattle.typed_copies.specs.Pointers.{Follow, words_in}
use Rattle.typed_copies.proofs.counting.take_off.Given as goal

abbrev pub invariant-loop-k : goal.invariant-loop-k
invariant-loop-k g l = record {
  follow : Follow l.initial.counts l.counts (take l.k (words_in l.bytes l.range.start (object_slots l.form l.range.size) l.within)) [];
  work : l.steps ≤ l.initial.steps + 2 * l.k;
}
