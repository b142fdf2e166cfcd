use Rattle.c_pre.proofs.Rows.{none_paired}
use Rattle.c_pre.proofs.row.paired.Goals as goal
use Rattle.c_pre.proofs.row.paired.Goals.{then-any+else-loop-at-test, else-any}

pub returns : goal.returns
returns c =
    elim c.if-any.branch [
      | then-any+else-loop-at-test w ↦ rw w.pairs-is w.loop-at.invariant.pairs
      | else-any w ↦ rw w.pairs-is (none_paired c.args.tokens.now _ c.new.ensures.items)
    ]
