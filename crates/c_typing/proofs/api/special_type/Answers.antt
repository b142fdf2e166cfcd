use Rattle.std.proofs.Common.{◌∙◌}
use Rattle.std.proofs.lemmas.Result.{err_from_is_err_and}
use Rattle.c_types.specs.Types.{PlainType}
use Rattle.c_tree.specs.View.{spec_tree}
use Rattle.c_decls.specs.TypeNames.{special_type}
use Rattle.c_typing.specs.Walks.{context_of, here}
use Rattle.c_typing.proofs.Lending.{walked, walk_refused}
use Rattle.c_typing.proofs.api.special_type.Goals as goal

pub returns : goal.returns
returns c =
    walked (λ (type : PlainType). type) (λ d. special_type c.args.line (spec_tree c.args.word.now) d) c.args.scopes.now c.own.result c.args.tags.now c.new.result.items
    (c.own.ensures ∙ c.replace.ensures.value) c.new.ensures.items
    c.special_type.new.self.scopes c.in_ok-scopes.field-0 c.make_tags.new.tags c.special_type.new.self.new_tags.items c.in_ok-answer.answer
    c.in_ok-answer.ensures c.in_ok-scopes.ensures c.in_ok-make_tags.ensures

pub returns-in_err-answer : goal.returns-in_err-answer
returns-in_err-answer c =
    let p = err_from_is_err_and c.from_residual.result c.from_residual.ensures.1 in
    rw (p.1, p.2)
    (walk_refused (λ (type : PlainType). type) (λ d. special_type c.args.line (spec_tree c.args.word.now) d) c.args.scopes.now c.own.result c.args.tags.now c.new.result.items
    (c.own.ensures ∙ c.replace.ensures.value) c.new.ensures.items
    (context_of c.special_type.new.self c.args.tags.now) (here c.replace.new.dest c.args.tags.now) c.in_err-answer.field-0.0 c.in_err-answer.ensures)
