use Rattle.std.proofs.Common.{◌≡◌, map, take}
use Rattle.count_insertion.specs.Inserted.{func_pins}
use Rattle.count_insertion.proofs.pinning.all_pins.Given as goal

abbrev pub invariant-loop-place : goal.invariant-loop-place
invariant-loop-place l = l.pins.items ≡ map func_pins (take l.place l.funcs)
