use Rattle.std.proofs.Common.{◌-◌}
use Rattle.byte_marks.specs.Marks.{Filled}
use Rattle.byte_marks.proofs.ends.fill.Given as goal

abbrev pub invariant-loop-place : goal.invariant-loop-place
invariant-loop-place l = Filled l.initial.ends l.ends l.from (l.place - l.from) l.end
