use Rattle.std.proofs.Common.{◌≡◌, drop}
use Rattle.c_tree.specs.StatementView.{trees, entry_view}
use Rattle.elab_addressed.specs.Turns.{in_turn}
use Rattle.elab_addressed.proofs.bodies.entries.Given as goal

-- what is left comes behind what is known so far
abbrev pub invariant-loop-one : goal.invariant-loop-one
invariant-loop-one l = in_turn (trees entry_view (drop l.one-index l.list)) l.state ≡ in_turn (trees entry_view l.list) l.initial.state
