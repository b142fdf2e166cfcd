use Rattle.std.proofs.Common.{◌-◌}
use Rattle.c_pre.specs.Splitting.{SplitUpTo}
use Rattle.c_pre.proofs.rest.find_end.Given as goal

abbrev pub invariant-loop-at : goal.invariant-loop-at
invariant-loop-at l = SplitUpTo l.fn.keeps l.piece.row.value.tokens.items l.piece.from l.piece.to l.start l.at l.args

abbrev pub decreases-loop-at : goal.decreases-loop-at
decreases-loop-at l = l.piece.to - l.at
