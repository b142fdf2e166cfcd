-- What is left of each list decides what the walk answers.
use Rattle.std.proofs.Common.{◌≡◌, [], map, drop}
use Rattle.c_types.specs.Types.{plain}
use Rattle.c_tree.specs.View.{spec_tree, declarator_tree}
use Rattle.c_tree.specs.StatementView.{trees, member_view, suffix_view, param_view}
use Rattle.c_typing.specs.Layers.{plain_layer}
use Rattle.elaboration.specs.Declarators.{words_type, members, member_names}
use Rattle.elab_types.proofs.Nodes.{left_words, suffix_walk, param_walk}
use Rattle.elab_types.proofs.walk.+walk.Given as goal

-- what is left decides

abbrev pub invariant-words_type-loop-word : goal.invariant-words_type-loop-word
invariant-words_type-loop-word l =
    left_words l.line (trees spec_tree l.words) l.words l.word-index l.state
    ≡ words_type l.line (trees spec_tree l.words) (trees spec_tree l.words) l.initial.state

abbrev pub invariant-members-loop-part : goal.invariant-members-loop-part
invariant-members-loop-part l =
    members (trees member_view (drop l.part-index l.list)) l.all l.state
    ≡ members (trees member_view l.list) [] l.initial.state

abbrev pub invariant-member_names-loop-declarator : goal.invariant-member_names-loop-declarator
invariant-member_names-loop-declarator l =
    member_names l.line l.base (trees declarator_tree (drop l.declarator-index l.list)) l.all l.state
    ≡ member_names l.line l.base (trees declarator_tree l.list) l.initial.all l.initial.state

abbrev pub invariant-suffix_layers-loop-suffix : goal.invariant-suffix_layers-loop-suffix
invariant-suffix_layers-loop-suffix l =
    suffix_walk (trees suffix_view (drop l.suffix-index l.list)) (map plain_layer l.all.items) l.state
    ≡ suffix_walk (trees suffix_view l.list) (map plain_layer l.initial.all.items) l.initial.state

abbrev pub invariant-params-loop-part : goal.invariant-params-loop-part
invariant-params-loop-part l =
    param_walk (trees param_view (drop l.part-index l.list)) (map plain l.types.items) l.state
    ≡ param_walk (trees param_view l.list) [] l.initial.state
