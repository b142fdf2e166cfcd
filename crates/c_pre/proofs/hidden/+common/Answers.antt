use Rattle.c_pre.proofs.Trees.{on_ok, common_parts}
use Rattle.c_pre.proofs.hidden.+common.Goals as goal

pub returns : goal.returns
returns t c =
    on_ok _ _ c.joined.result
    (λ both is. common_parts c.args.half c.args.left.now c.args.right.now _ _ _ _ _ _ both c.in_ok-left_low.ensures c.in_ok-right_low.ensures c.in_ok-low.ensures c.in_ok-high.ensures is)
    c.joined.ensures
