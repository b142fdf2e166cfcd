use Rattle.std.proofs.Common.{◌≡◌, ◌++◌, map}
use Rattle.c_pre.specs.Reading.{plain}
use Rattle.c_pre.proofs.progress.append_plain.Given as goal

abbrev pub invariant-loop-marked : goal.invariant-loop-marked
invariant-loop-marked l = l.to ≡ l.fn.to ++ map plain l.yielded
