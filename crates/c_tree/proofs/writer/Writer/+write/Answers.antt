use Rattle.std.proofs.Common.{◌≡◌, ap, subst, ◌∙◌, ◌++◌, ◌≤◌, length, take, arith}
use Rattle.std.proofs.lemmas.List.{take_all}
use Rattle.c_tree.specs.View.{spec_tree, enumerator_tree, declarator_tree}
use Rattle.c_tree.specs.StatementView.{expr_view, member_view, suffix_view, param_view}
use Rattle.c_tree.proofs.ListTexts.{list_text, members_text, specs_text, suffixes_text, arguments_empty, member_names_empty, enumerators_empty, params_empty, commas_done, arguments_text, member_names_text, enumerators_text, params_text}
use Rattle.c_tree.specs.Forms as f
use Rattle.c_tree.proofs.writer.Writer.+write.Goals as goal

pub members-returns : goal.members-returns
members-returns t c =
    c.loop-member.invariant
    ∙ ap (λ xs. c.args.self.now ++ list_text member_view xs)
    (take_all c.loop-member.member-index c.args.list.now (omega (arith, c.loop-member-test.false)))
    ∙ members_text c.args.list.now c.args.self.now

pub suffixes-returns : goal.suffixes-returns
suffixes-returns t c =
    c.loop-suffix.invariant
    ∙ ap (λ xs. c.args.self.now ++ list_text suffix_view xs)
    (take_all c.loop-suffix.suffix-index c.args.list.now (omega (arith, c.loop-suffix-test.false)))
    ∙ suffixes_text c.args.list.now c.args.self.now

pub specs-returns : goal.specs-returns
specs-returns t c =
    let done : length c.args.specs.now.words.items ≤ c.loop-word.word-index =
    subst (λ xs. length xs ≤ c.loop-word.word-index) c.deref-word-items.ensures.value c.loop-word-test.false in
    c.loop-word.invariant
    ∙ ap (λ xs. c.args.self.now ++ list_text spec_tree xs) (take_all c.loop-word.word-index c.args.specs.now.words.items done)
    ∙ specs_text c.args.specs.now c.args.self.now

pub arguments-returns-in-empty : goal.arguments-returns-in-empty
arguments-returns-in-empty t c = arguments_empty c.args.list.now c.args.self.now c.in-empty.len_below

pub member_names-returns-in-empty : goal.member_names-returns-in-empty
member_names-returns-in-empty t c = member_names_empty c.args.list.now c.args.self.now c.in-empty.len_below

pub enumerators-returns-in-empty : goal.enumerators-returns-in-empty
enumerators-returns-in-empty t c = enumerators_empty c.args.list.now c.args.self.now c.in-empty.len_below

pub params-returns-in-empty : goal.params-returns-in-empty
params-returns-in-empty t c = params_empty c.args.list.now c.args.self.now c.in-empty.len_below

pub arguments-returns-after-loop-e : goal.arguments-returns-after-loop-e
arguments-returns-after-loop-e t c =
    commas_done expr_view f.Arguments arguments_text c.args.list.now c.first-item.result c.loop-e.e-index c.args.self.now
    c.expr.new.self c.loop-e.self c.in-len1-up.len_at_least c.first-item.is c.loop-e-test.false
    c.in_ok-expr-in-len1-up.ensures c.loop-e.invariant

pub member_names-returns-after-loop-declarator : goal.member_names-returns-after-loop-declarator
member_names-returns-after-loop-declarator t c =
    commas_done declarator_tree f.MemberNames member_names_text c.args.list.now c.first-item.result c.loop-declarator.declarator-index c.args.self.now
    c.declarator.new.self c.loop-declarator.self c.in-len1-up.len_at_least c.first-item.is c.loop-declarator-test.false
    c.in_ok-declarator-in-len1-up.ensures c.loop-declarator.invariant

pub enumerators-returns-after-loop-enumerator : goal.enumerators-returns-after-loop-enumerator
enumerators-returns-after-loop-enumerator t c =
    commas_done enumerator_tree f.Enumerators enumerators_text c.args.list.now c.first-item.result c.loop-enumerator.enumerator-index c.args.self.now
    c.enumerator.new.self c.loop-enumerator.self c.in-len1-up.len_at_least c.first-item.is c.loop-enumerator-test.false
    c.in_ok-enumerator-in-len1-up.ensures c.loop-enumerator.invariant

pub params-returns-after-loop-param : goal.params-returns-after-loop-param
params-returns-after-loop-param t c =
    commas_done param_view f.Params params_text c.args.list.now c.first-item.result c.loop-param.param-index c.args.self.now
    c.param.new.self c.loop-param.self c.in-len1-up.len_at_least c.first-item.is c.loop-param-test.false
    c.in_ok-param-in-len1-up.ensures c.loop-param.invariant
