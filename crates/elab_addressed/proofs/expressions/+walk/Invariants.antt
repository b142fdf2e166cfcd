use Rattle.std.proofs.Common.{◌≡◌, drop}
use Rattle.c_tree.specs.View.{spec_tree, enumerator_tree, declarator_tree}
use Rattle.c_tree.specs.StatementView.{trees, expr_view, member_view, suffix_view, param_view}
use Rattle.elab_addressed.specs.Turns.{in_turn}
use Rattle.elab_addressed.proofs.expressions.+walk.Given as goal

-- what is left comes behind what is known so far

abbrev pub invariant-exprs-loop-e : goal.invariant-exprs-loop-e
invariant-exprs-loop-e l = in_turn (trees expr_view (drop l.e-index l.list)) l.state ≡ in_turn (trees expr_view l.list) l.initial.state

abbrev pub invariant-words-loop-word : goal.invariant-words-loop-word
invariant-words-loop-word l = in_turn (trees spec_tree (drop l.word-index l.list)) l.state ≡ in_turn (trees spec_tree l.list) l.initial.state

abbrev pub invariant-members-loop-one : goal.invariant-members-loop-one
invariant-members-loop-one l = in_turn (trees member_view (drop l.one-index l.list)) l.state ≡ in_turn (trees member_view l.list) l.initial.state

abbrev pub invariant-declarators-loop-one : goal.invariant-declarators-loop-one
invariant-declarators-loop-one l = in_turn (trees declarator_tree (drop l.one-index l.list)) l.state ≡ in_turn (trees declarator_tree l.list) l.initial.state

abbrev pub invariant-enumerators-loop-one : goal.invariant-enumerators-loop-one
invariant-enumerators-loop-one l = in_turn (trees enumerator_tree (drop l.one-index l.list)) l.state ≡ in_turn (trees enumerator_tree l.list) l.initial.state

abbrev pub invariant-suffixes-loop-one : goal.invariant-suffixes-loop-one
invariant-suffixes-loop-one l = in_turn (trees suffix_view (drop l.one-index l.list)) l.state ≡ in_turn (trees suffix_view l.list) l.initial.state

abbrev pub invariant-params-loop-one : goal.invariant-params-loop-one
invariant-params-loop-one l = in_turn (trees param_view (drop l.one-index l.list)) l.state ≡ in_turn (trees param_view l.list) l.initial.state
