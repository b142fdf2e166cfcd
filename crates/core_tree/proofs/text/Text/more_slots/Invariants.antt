use Rattle.std.proofs.Common.{◌≡◌, ◌++◌, take, codes, decimal}
use Rattle.std.specs.List.{flat_map}
use Rattle.core_tree.proofs.text.Text.more_slots.Given as goal

-- what the items so far are written as
abbrev pub invariant-loop-slot : goal.invariant-loop-slot
invariant-loop-slot l = l.self ≡ l.fn.self ++ flat_map (λ slot. codes "," ++ decimal slot) (take l.slot-index l.slots)
