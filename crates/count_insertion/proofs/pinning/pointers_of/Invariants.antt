use Rattle.count_insertion.proofs.Runs.{Marked}
use Rattle.count_insertion.proofs.pinning.pointers_of.Given as goal

abbrev pub invariant-loop-place : goal.invariant-loop-place
invariant-loop-place l = Marked l.func l.place l.pointers
