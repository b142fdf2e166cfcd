use Rattle.core_tree.specs.Listing.{statement_line}
use Rattle.core_tree.proofs.Joining.{numbered_step}
use Rattle.core_tree.proofs.listing.put_body.Goals as goal

pub loop-point-preserved : goal.loop-point-preserved
loop-point-preserved c =
    numbered_step (statement_line c.args.core.now) c.loop-point.point c.args.body.now c.index-body-point.result c.args.text.now c.loop-point.text
    c.put_statement.new.text c.loop-point-test.true c.index-body-point.is c.loop-point.invariant c.in_ok-put_statement.ensures
