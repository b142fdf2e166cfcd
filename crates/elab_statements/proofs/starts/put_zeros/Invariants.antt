use Rattle.std.proofs.Common.{◌≡◌, ◌++◌, replicate}
use Rattle.elab_statements.proofs.starts.put_zeros.Given as goal

abbrev pub invariant-loop-made : goal.invariant-loop-made
invariant-loop-made l = l.bytes ≡ l.initial.bytes ++ replicate l.made 0
