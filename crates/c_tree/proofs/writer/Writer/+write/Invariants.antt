use Rattle.std.proofs.Common.{◌≡◌, ◌++◌, take}
use Rattle.c_tree.specs.View.{spec_tree, enumerator_tree, declarator_tree}
use Rattle.c_tree.specs.StatementView.{expr_view, member_view, suffix_view, param_view}
use Rattle.c_tree.proofs.ListTexts.{list_text, comma_text}
use Rattle.c_tree.proofs.writer.Writer.+write.Given as goal

abbrev pub invariant-arguments-loop-e : goal.invariant-arguments-loop-e
invariant-arguments-loop-e l = l.self ≡ l.initial.self ++ comma_text expr_view (take l.e-index l.rest)

abbrev pub invariant-specs-loop-word : goal.invariant-specs-loop-word
invariant-specs-loop-word l = l.self ≡ l.initial.self ++ list_text spec_tree (take l.word-index l.specs.words.items)

abbrev pub invariant-members-loop-member : goal.invariant-members-loop-member
invariant-members-loop-member l = l.self ≡ l.initial.self ++ list_text member_view (take l.member-index l.list)

abbrev pub invariant-member_names-loop-declarator : goal.invariant-member_names-loop-declarator
invariant-member_names-loop-declarator l = l.self ≡ l.initial.self ++ comma_text declarator_tree (take l.declarator-index l.rest)

abbrev pub invariant-enumerators-loop-enumerator : goal.invariant-enumerators-loop-enumerator
invariant-enumerators-loop-enumerator l = l.self ≡ l.initial.self ++ comma_text enumerator_tree (take l.enumerator-index l.rest)

abbrev pub invariant-suffixes-loop-suffix : goal.invariant-suffixes-loop-suffix
invariant-suffixes-loop-suffix l = l.self ≡ l.initial.self ++ list_text suffix_view (take l.suffix-index l.list)

abbrev pub invariant-params-loop-param : goal.invariant-params-loop-param
invariant-params-loop-param l = l.self ≡ l.initial.self ++ comma_text param_view (take l.param-index l.rest)
