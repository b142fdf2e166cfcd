use Rattle.std.proofs.Common.{get_or, arith}
use Rattle.std.proofs.lemmas.Bool.{ne_eqb, and_left, and_right}
use Rattle.c_lexer.proofs.Ends.{comment_closes, comment_ends, comment_goes_on}
use Rattle.c_lexer.proofs.gap.comment_end.Goals as goal
use Rattle.c_lexer.proofs.gap.comment_end.Goals.{else-star-via-then-star+else-byte-eq47, else-star-via-else-star}

pub returns-then-byte-eq47-clause-end : goal.returns-then-byte-eq47-clause-end
returns-then-byte-eq47-clause-end c =
    comment_closes c.args.text.now c.loop-at.at (rw (← c.if-star.true) c.loop-at.invariant) (omega arith) c.if-byte-eq47.true

pub loop-at-preserved : goal.loop-at-preserved
loop-at-preserved c = elim c.else-star.branch [
  | else-star-via-then-star+else-byte-eq47 w ↦ comment_goes_on c.args.text.now c.loop-at.star c.loop-at.at c.loop-at.invariant (omega arith)
      (and_right c.loop-at.star _ (ne_eqb (get_or c.args.text.now c.loop-at.at 0) 47 w.if-byte-eq47.false))
  | else-star-via-else-star w ↦ comment_goes_on c.args.text.now c.loop-at.star c.loop-at.at c.loop-at.invariant (omega arith)
      (and_left c.loop-at.star _ w.if-star.false)
]

pub returns-clause-end : goal.returns-clause-end
returns-clause-end c = comment_ends c.args.text.now c.loop-at.star c.loop-at.at c.loop-at.invariant (omega arith)
