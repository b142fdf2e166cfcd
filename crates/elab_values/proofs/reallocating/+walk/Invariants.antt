use Rattle.std.proofs.Common.{◌≡◌, drop}
use Rattle.c_tree.specs.View.{spec_tree, enumerator_tree, declarator_tree}
use Rattle.c_tree.specs.StatementView.{trees, expr_view, member_view, suffix_view, param_view}
use Rattle.elaboration.specs.Reallocates.{any_reallocates}
use Rattle.elab_values.proofs.reallocating.+walk.Given as goal

-- what is left decides

abbrev pub invariant-declarators-loop-declarator : goal.invariant-declarators-loop-declarator
invariant-declarators-loop-declarator l = any_reallocates l.scopes (trees declarator_tree (drop l.declarator-index l.list)) ≡ any_reallocates l.scopes (trees declarator_tree l.list)

abbrev pub invariant-enumerators-loop-enumerator : goal.invariant-enumerators-loop-enumerator
invariant-enumerators-loop-enumerator l = any_reallocates l.scopes (trees enumerator_tree (drop l.enumerator-index l.list)) ≡ any_reallocates l.scopes (trees enumerator_tree l.list)

abbrev pub invariant-exprs-loop-e : goal.invariant-exprs-loop-e
invariant-exprs-loop-e l = any_reallocates l.scopes (trees expr_view (drop l.e-index l.list)) ≡ any_reallocates l.scopes (trees expr_view l.list)

abbrev pub invariant-words-loop-word : goal.invariant-words-loop-word
invariant-words-loop-word l = any_reallocates l.scopes (trees spec_tree (drop l.word-index l.list)) ≡ any_reallocates l.scopes (trees spec_tree l.list)

abbrev pub invariant-members-loop-member : goal.invariant-members-loop-member
invariant-members-loop-member l = any_reallocates l.scopes (trees member_view (drop l.member-index l.list)) ≡ any_reallocates l.scopes (trees member_view l.list)

abbrev pub invariant-params-loop-param : goal.invariant-params-loop-param
invariant-params-loop-param l = any_reallocates l.scopes (trees param_view (drop l.param-index l.list)) ≡ any_reallocates l.scopes (trees param_view l.list)

abbrev pub invariant-suffixes-loop-suffix : goal.invariant-suffixes-loop-suffix
invariant-suffixes-loop-suffix l = any_reallocates l.scopes (trees suffix_view (drop l.suffix-index l.list)) ≡ any_reallocates l.scopes (trees suffix_view l.list)
