use Rattle.c_pre.specs.Rows.{PairedUpTo}
use Rattle.c_pre.proofs.row.paired.Given as goal

abbrev pub invariant-loop-at : goal.invariant-loop-at
invariant-loop-at l = PairedUpTo l.tokens l.at l.pairs.ends.items l.pairs.waiting
