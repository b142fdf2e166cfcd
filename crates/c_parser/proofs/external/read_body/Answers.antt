use Rattle.c_tree.specs.StatementView.{body_view}
use Rattle.c_parser.proofs.Scoping.{body_ends}
use Rattle.c_parser.proofs.external.read_body.Goals as goal

pub returns : goal.returns
returns c =
    body_ends c.trees_are_read.ensures c.args.room c.args.reader.now c.declare_params.new.self c.open_body.new.reader c.leave.new.self (body_view c.in_ok-body.body.items c.in_ok-body.body.end) c.enter-outer.result.count c.enter-outer.result.typedef
    c.enter-outer.ensures.count c.enter-outer.ensures.typedef c.in_ok-declare_params.ensures c.in_ok-body.ensures c.in_ok-leave.ensures
