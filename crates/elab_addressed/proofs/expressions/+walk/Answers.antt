use Rattle.std.proofs.Common.{arith}
use Rattle.std.proofs.lemmas.Grind.{common_steps}
use Rattle.c_tree.specs.View.{spec_tree}
use Rattle.c_tree.specs.StatementView.{trees}
use Rattle.elab_addressed.proofs.ListTurns.{specs_turn}
use Rattle.elab_addressed.proofs.expressions.+walk.Goals as goal

pub specs-returns : goal.specs-returns
specs-returns t c =
    let whole = specs_turn (trees spec_tree c.args.specs.now.words.items) c.args.state.now c.args.specs.now.line in
    grind (arith, common_steps, whole)
