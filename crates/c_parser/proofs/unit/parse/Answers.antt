use Rattle.std.proofs.Common.{◌∙◌, sym, refl}
use Rattle.c_tree.specs.StatementView.{trees, decl_view}
use Rattle.c_parser.proofs.Parsing.{only_tree, refused}
use Rattle.c_parser.proofs.Texts.{unit_told}
use Rattle.c_parser.proofs.unit.parse.Goals as goal

pub returns-in-Ok-clause-tree : goal.returns-in-Ok-clause-tree
returns-in-Ok-clause-tree c =
    only_tree c.texts_are_read.ensures.whole c.trees_of_texts_are_read.ensures.trees c.args.tokens.now (trees decl_view c.in-Ok.decls) (sym (unit_told c.args.tokens.now _ _ refl c.in_ok-reader.ensures) ∙ c.in-Ok.ensures.tree)

pub returns-clause-refused : goal.returns-clause-refused
returns-clause-refused c =
    refused c.trees_of_texts_are_read.ensures.wrong c.args.tokens.now _ c.in-Err.error (sym (unit_told c.args.tokens.now _ _ refl c.in_ok-reader.ensures)) c.in-Err.ensures.stopped
