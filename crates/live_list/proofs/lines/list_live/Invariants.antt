use Rattle.std.proofs.Common.{◌≡◌, take}
use Rattle.std.specs.List.{flat_map}
use Rattle.live_list.specs.Listing.{func_lines}
use Rattle.live_list.proofs.lines.list_live.Given as goal

-- the lines of the functions so far are written
abbrev pub invariant-loop-func : goal.invariant-loop-func
invariant-loop-func l = l.text.items ≡ flat_map func_lines (take l.func-index l.core.funcs)
