use Rattle.std.proofs.Common.{◌≡◌, drop}
use Rattle.c_tree.specs.StatementView.{trees, init_view}
use Rattle.elab_addressed.specs.Turns.{in_turn}
use Rattle.elab_addressed.proofs.bodies.+inits.Given as goal

-- what is left comes behind what is known so far
abbrev pub invariant-inits-loop-one : goal.invariant-inits-loop-one
invariant-inits-loop-one l = in_turn (trees init_view (drop l.one-index l.list)) l.state ≡ in_turn (trees init_view l.list) l.initial.state
