use Rattle.c_lexer.proofs.Ends.{AtComment}
use Rattle.c_lexer.proofs.gap.comment_end.Given as goal

abbrev pub invariant-loop-at : goal.invariant-loop-at
invariant-loop-at l = AtComment l.text l.star l.at
