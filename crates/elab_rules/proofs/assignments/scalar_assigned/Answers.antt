use Rattle.std.proofs.Common.{arith}
use Rattle.std.proofs.lemmas.Grind.{common_steps}
use Rattle.c_tree.specs.StatementView.{expr_view}
use Rattle.c_decls.specs.Typed.{plain_typed}
use Rattle.elab_base.specs.PlainFound.{plain_found}
use Rattle.elab_rules.proofs.Assigned.{scalar_done}
use Rattle.elab_rules.proofs.assignments.scalar_assigned.Goals as goal

pub returns : goal.returns
returns c = λ code m b.
    scalar_done c.args.line code c.args.before (expr_view c.args.tree.now) (plain_found c.args.target) (c.args.state.now, plain_found c.args.e)
    (plain_typed c.in_ok-typed.typed) (c.valued_from.new.self, plain_found c.in_ok-value.value) _ m b
    (grind (arith, common_steps)) c.in_ok-value.ensures c.in_ok-set_to.ensures
