use Rattle.std.proofs.Common.{◌≡◌, ◌++◌, take}
use Rattle.layout_list.specs.Listing.{offsets}
use Rattle.layout_list.proofs.lines.put_offsets.Given as goal

-- the offsets so far are written
abbrev pub invariant-loop-slot : goal.invariant-loop-slot
invariant-loop-slot l = l.text.items ≡ l.fn.text.items ++ offsets (take l.slot-index l.slots)
