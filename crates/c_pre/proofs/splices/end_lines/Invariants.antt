use Rattle.std.proofs.Common.{◌≡◌, ◌++◌, replicate}
use Rattle.c_pre.proofs.splices.end_lines.Given as goal

abbrev pub invariant-loop-i : goal.invariant-loop-i
invariant-loop-i l = l.text.items ≡ l.fn.text.items ++ replicate l.i 10
