use Rattle.std.proofs.Common.{◌≡◌, take}
use Rattle.count_insertion.proofs.copies.funcs_copy.Given as goal

abbrev pub invariant-loop-one : goal.invariant-loop-one
invariant-loop-one l = l.copy.items ≡ take l.one-index l.funcs
