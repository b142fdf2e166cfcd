use Rattle.c_units.proofs.Words.Trees.{declarator_tree, enumerator_tree, expr_view, member_view, param_view, spec_tree, suffix_view}
use Rattle.c_units.proofs.ItemTurns.{AreLeft, Leads}
use Rattle.c_units.proofs.walk.Walk.+walk.Given as goal

abbrev pub invariant-exprs-loop-e : goal.invariant-exprs-loop-e
invariant-exprs-loop-e l = AreLeft l.initial.list l.list l.e-index × Leads expr_view l.initial.list l.list l.e-index l.self l.initial.self

abbrev pub invariant-words-loop-word : goal.invariant-words-loop-word
invariant-words-loop-word l = AreLeft l.initial.list l.list l.word-index × Leads spec_tree l.initial.list l.list l.word-index l.self l.initial.self

abbrev pub invariant-members-loop-one : goal.invariant-members-loop-one
invariant-members-loop-one l = AreLeft l.initial.list l.list l.one-index × Leads member_view l.initial.list l.list l.one-index l.self l.initial.self

abbrev pub invariant-declarators-loop-one : goal.invariant-declarators-loop-one
invariant-declarators-loop-one l = AreLeft l.initial.list l.list l.one-index × Leads declarator_tree l.initial.list l.list l.one-index l.self l.initial.self

abbrev pub invariant-enumerators-loop-one : goal.invariant-enumerators-loop-one
invariant-enumerators-loop-one l = AreLeft l.initial.list l.list l.one-index × Leads enumerator_tree l.initial.list l.list l.one-index l.self l.initial.self

abbrev pub invariant-suffixes-loop-one : goal.invariant-suffixes-loop-one
invariant-suffixes-loop-one l = AreLeft l.initial.list l.list l.one-index × Leads suffix_view l.initial.list l.list l.one-index l.self l.initial.self

abbrev pub invariant-params-loop-one : goal.invariant-params-loop-one
invariant-params-loop-one l = AreLeft l.initial.list l.list l.one-index × Leads param_view l.initial.list l.list l.one-index l.self l.initial.self
