use Rattle.std.proofs.Common.{◌-◌}
use Rattle.heap_blocks.specs.Runs.{Filled}
use Rattle.heap_blocks.proofs.marks.fill.Given as goal

abbrev pub invariant-loop-place : goal.invariant-loop-place
invariant-loop-place l = Filled l.initial.marks l.marks l.from (l.place - l.from) l.mark
