use Rattle.std.proofs.Common.{◌≡◌, map}
use Rattle.c_types.specs.Types.{plain}
use Rattle.c_tree.specs.StatementView.{trees, expr_view, suffix_view, param_view}
use Rattle.c_decls.specs.Typed.{plain_typed}
use Rattle.c_decls.specs.Expressions.{suffix_layer, param_type}
use Rattle.c_typing.specs.Layers.{plain_layer}
use Rattle.c_typing.specs.Parts.{behind}
use Rattle.c_typing.specs.Walks.{context_of}
use Rattle.c_typing.proofs.Turns.{in_turn, left}
use Rattle.c_typing.proofs.Walked.{valued}
use Rattle.c_typing.proofs.typer.Typer.+walk.Given as goal

-- the values so far stand before those of the arguments that are left
abbrev pub invariant-values-loop-e : goal.invariant-values-loop-e
invariant-values-loop-e l =
    in_turn valued (trees expr_view l.list) (context_of l.initial.self l.tags)
    ≡ behind (map plain_typed l.values.items) (left expr_view valued l.list l.e-index (context_of l.self l.tags))

-- the layers so far stand before those of the suffixes that are left
abbrev pub invariant-suffix_layers-loop-suffix : goal.invariant-suffix_layers-loop-suffix
invariant-suffix_layers-loop-suffix l =
    behind (map plain_layer l.initial.layers.items) (in_turn suffix_layer (trees suffix_view l.list) (context_of l.initial.self l.tags))
    ≡ behind (map plain_layer l.layers.items) (left suffix_view suffix_layer l.list l.suffix-index (context_of l.self l.tags))

-- the types so far stand before those of the parameters that are left
abbrev pub invariant-param_types-loop-param : goal.invariant-param_types-loop-param
invariant-param_types-loop-param l =
    in_turn param_type (trees param_view l.list) (context_of l.initial.self l.tags)
    ≡ behind (map plain l.types.items) (left param_view param_type l.list l.param-index (context_of l.self l.tags))
