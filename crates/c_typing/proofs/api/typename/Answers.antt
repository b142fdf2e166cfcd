use Rattle.std.proofs.Common.{◌∙◌, Ok, ap, sym}
use Rattle.std.proofs.lemmas.Result.{err_from_is_err_and}
use Rattle.c_types.specs.Types.{PlainType, plain}
use Rattle.c_tree.specs.StatementView.{typename_view}
use Rattle.c_decls.specs.Refusals.{Checked}
use Rattle.c_decls.specs.TypeNames.{Context}
use Rattle.c_decls.specs.Expressions.{typename}
use Rattle.c_typing.specs.Walks.{context_of, here}
use Rattle.c_typing.proofs.Lending.{walked, walk_refused}
use Rattle.c_typing.proofs.api.typename.Goals as goal

pub returns : goal.returns
returns c =
    walked plain (λ d. typename (typename_view c.args.name.now) d) c.args.scopes.now c.own.result c.args.tags.now c.new.result.items
    (c.own.ensures ∙ c.replace.ensures.value) c.new.ensures.items
    c.typename.new.self.scopes c.in_ok-scopes.field-0 c.make_tags.new.tags c.typename.new.self.new_tags.items (plain c.ty.result)
    (c.in_ok-answer.ensures ∙ ap (λ (t : PlainType). let found : Checked (Context × PlainType) = Ok (context_of c.typename.new.self c.args.tags.now, t) in found) (sym c.ty.ensures)) c.in_ok-scopes.ensures c.in_ok-make_tags.ensures

pub returns-in_err-answer : goal.returns-in_err-answer
returns-in_err-answer c =
    let p = err_from_is_err_and c.from_residual.result c.from_residual.ensures.1 in
    rw (p.1, p.2)
    (walk_refused plain (λ d. typename (typename_view c.args.name.now) d) c.args.scopes.now c.own.result c.args.tags.now c.new.result.items
    (c.own.ensures ∙ c.replace.ensures.value) c.new.ensures.items
    (context_of c.typename.new.self c.args.tags.now) (here c.replace.new.dest c.args.tags.now) c.in_err-answer.field-0.0 c.in_err-answer.ensures)
