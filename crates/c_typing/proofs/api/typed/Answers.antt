use Rattle.std.proofs.Common.{◌∙◌}
use Rattle.c_tree.specs.StatementView.{expr_view}
use Rattle.c_decls.specs.Typed.{plain_typed}
use Rattle.c_decls.specs.Expressions.{typed}
use Rattle.c_typing.proofs.Lending.{walked}
use Rattle.c_typing.proofs.api.typed.Goals as goal

pub returns : goal.returns
returns c =
    walked plain_typed (λ d. typed (expr_view c.args.e.now) d) c.args.scopes.now c.own.result c.args.tags.now c.new.result.items
    (c.own.ensures ∙ c.replace.ensures.value) c.new.ensures.items
    c.typed.new.self.scopes c.in_ok-scopes.field-0 c.make_tags.new.tags c.typed.new.self.new_tags.items (plain_typed c.in_ok-answer.answer)
    c.in_ok-answer.ensures c.in_ok-scopes.ensures c.in_ok-make_tags.ensures
