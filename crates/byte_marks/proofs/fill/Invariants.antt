use Rattle.std.proofs.Common.{◌-◌}
use Rattle.byte_marks.specs.Marks.{Filled}
use Rattle.byte_marks.proofs.fill.Given as goal

abbrev pub invariant-loop-place : goal.invariant-loop-place
invariant-loop-place l = Filled l.initial.marks l.marks l.from (l.place - l.from) l.mark
