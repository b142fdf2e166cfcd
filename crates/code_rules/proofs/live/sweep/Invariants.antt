use Rattle.code_rules.specs.Lively.{Sweeps}
use Rattle.code_rules.proofs.live.sweep.Given as goal

-- the instructions from this one on were looked at
abbrev pub invariant-loop-point : goal.invariant-loop-point
invariant-loop-point l = Sweeps l.code l.register l.point l.fn.marks l.marks l.more
