use Rattle.std.proofs.Common.{◌≡◌, drop}
use Rattle.c_pre.specs.Macros.{same_spellings}
use Rattle.c_pre.proofs.macros.same_spellings.Given as goal

abbrev pub invariant-loop-at : goal.invariant-loop-at
invariant-loop-at l = same_spellings (drop l.at l.left) (drop l.at l.right) ≡ same_spellings l.left l.right
