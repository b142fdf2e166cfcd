-- What is left of the statements decides.
use Rattle.std.proofs.Common.{◌≡◌, drop}
use Rattle.c_tree.specs.StatementView.{trees, stmt_view}
use Rattle.elaboration.specs.Statements.{items}
use Rattle.elab_statements.specs.PlainAround.{plain_around}
use Rattle.elab_statements.proofs.statements.+walk.Given as goal

-- what is left decides
abbrev pub invariant-items-loop-item : goal.invariant-items-loop-item
invariant-items-loop-item l =
    items (trees stmt_view (drop l.item-index l.list)) (plain_around l.around) l.state
    ≡ items (trees stmt_view l.list) (plain_around l.around) l.initial.state
