use Rattle.std.proofs.Common.{◌≡◌, drop}
use Rattle.c_tree.specs.StatementView.{trees, stmt_view}
use Rattle.elab_addressed.specs.Turns.{in_turn}
use Rattle.elab_addressed.proofs.bodies.+statements.Given as goal

-- what is left comes behind what is known so far
abbrev pub invariant-items-loop-one : goal.invariant-items-loop-one
invariant-items-loop-one l = in_turn (trees stmt_view (drop l.one-index l.list)) l.state ≡ in_turn (trees stmt_view l.list) l.initial.state
