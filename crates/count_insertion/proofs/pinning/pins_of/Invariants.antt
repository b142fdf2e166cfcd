use Rattle.std.proofs.Common.{◌≡◌, reverse}
use Rattle.count_insertion.specs.Inserted.{pins_before, registers_from}
use Rattle.count_insertion.proofs.pinning.pins_of.Given as goal

abbrev pub invariant-loop-place : goal.invariant-loop-place
invariant-loop-place l = record {
  pins : l.pins ≡ pins_before l.func l.place;
  lists : l.lists.items ≡ reverse (registers_from l.func l.place);
}
