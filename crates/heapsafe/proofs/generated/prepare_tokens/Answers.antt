use Rattle.c_tree.specs.StatementView.{unit_view}
use Rattle.heapsafe.proofs.Sources.{tree_of_tokens}
use Rattle.heapsafe.proofs.generated.prepare_tokens.Goals as goal

pub prepare_unit-requires : goal.prepare_unit-requires
prepare_unit-requires c =
    tree_of_tokens c.texts_are_made_of_themselves.ensures.small c.args.tokens.now (unit_view c.in-Ok.unit) c.requires.lexed c.requires.short c.in-Ok.ensures.tree.tree
