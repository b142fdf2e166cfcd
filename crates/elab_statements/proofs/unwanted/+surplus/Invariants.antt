use Rattle.std.proofs.Common.{◌≡◌, drop}
use Rattle.c_tree.specs.StatementView.{trees, init_view}
use Rattle.elaboration.specs.Initializers.{all_surplus}
use Rattle.elab_statements.proofs.unwanted.+surplus.Given as goal

-- what is left decides
abbrev pub invariant-all_surplus-loop-init : goal.invariant-all_surplus-loop-init
invariant-all_surplus-loop-init l = all_surplus (trees init_view (drop l.init-index l.list)) l.state ≡ all_surplus (trees init_view l.list) l.initial.state
