use Rattle.c_tree.specs.StatementView.{expr_view}
use Rattle.c_decls.specs.Typed.{plain_typed}
use Rattle.c_decls.specs.Expressions.{typed, wanted}
use Rattle.c_typing.specs.Walks.{context_of}
use Rattle.c_typing.proofs.Lending.{answered_alone}
use Rattle.c_typing.proofs.api.value_ahead.Goals as goal

pub returns : goal.returns
returns c =
    answered_alone plain_typed (λ d. wanted (expr_view c.args.e.now) (typed (expr_view c.args.e.now) d)) c.args.scopes.now c.lent.result c.args.tags.now c.new.result.items
    c.lent.ensures c.new.ensures.items (context_of c.wanted.new.self c.args.tags.now) c.wanted.result c.wanted.ensures
