use Rattle.std.proofs.Common.{◌≡◌, ◌++◌, map}
use Rattle.c_pre.specs.Reading.{moved}
use Rattle.c_pre.proofs.progress.append.Given as goal

abbrev pub invariant-loop-token : goal.invariant-loop-token
invariant-loop-token l = l.to ≡ l.fn.to ++ map (moved l.lines) l.yielded
