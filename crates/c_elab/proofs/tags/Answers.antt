use Rattle.c_tree.specs.StatementView.{unit_view}
use Rattle.elaboration.specs.Elaboration.{walked}
use Rattle.c_elab.proofs.Finished.{tags_ok}
use Rattle.c_elab.proofs.tags.Goals as goal

pub returns : goal.returns
returns c =
    tags_ok (walked (unit_view c.args.unit.now)) c.in_ok-finished.finished c.into_parts.result.tags c.in_ok-finished.ensures c.into_parts.ensures.tags
