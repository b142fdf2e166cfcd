use Rattle.std.proofs.Common.{◌≡◌, ◌++◌}
use Rattle.std.specs.List.{flat_map, range_with_len}
use Rattle.live_list.specs.Listing.{point_line}
use Rattle.live_list.proofs.lines.put_points.Given as goal

-- the lines of the points so far are written
abbrev pub invariant-loop-point : goal.invariant-loop-point
invariant-loop-point l = l.text.items ≡ l.fn.text.items ++ flat_map (point_line l.func) (range_with_len 0 l.point)
