use Rattle.std.proofs.Common.{◌≡◌, ◌∙◌, Bool, true, false, sym}
use Rattle.c_tree.specs.View.{base_tree}
use Rattle.c_tree.specs.StatementView.{trees, expr_view, typename_view, member_view, suffix_view, param_view}
use Rattle.elaboration.specs.Reallocates.{reallocates, any_reallocates}
use Rattle.elab_values.proofs.ReallocParts.{or_left, or_right, cast_is, direct_is, item_next, item_found}
use Rattle.elab_values.proofs.reallocating.+walk.Goals as goal

pub exprs-returns-then-reallocates : goal.exprs-returns-then-reallocates
exprs-returns-then-reallocates t c =
    sym (sym c.loop-e.invariant ∙ item_found c.args.scopes.now expr_view c.args.list.now c.loop-e.e-index c.e-item.result c.loop-e-test.true c.e-item.is (sym c.reallocates.ensures ∙ c.if-reallocates.true))

pub exprs-loop-e-preserved : goal.exprs-loop-e-preserved
exprs-loop-e-preserved t c =
    item_next c.args.scopes.now expr_view c.args.list.now c.loop-e.e-index c.e-item.result c.loop-e-test.true c.e-item.is (sym c.reallocates.ensures ∙ c.if-reallocates.false) ∙ c.loop-e.invariant

pub members-returns-then-in_member : goal.members-returns-then-in_member
members-returns-then-in_member t c =
    sym (sym c.loop-member.invariant ∙ item_found c.args.scopes.now member_view c.args.list.now c.loop-member.member-index c.member-item.result c.loop-member-test.true c.member-item.is (sym c.in_member.ensures ∙ c.if-in_member.true))

pub members-loop-member-preserved : goal.members-loop-member-preserved
members-loop-member-preserved t c =
    item_next c.args.scopes.now member_view c.args.list.now c.loop-member.member-index c.member-item.result c.loop-member-test.true c.member-item.is (sym c.in_member.ensures ∙ c.if-in_member.false) ∙ c.loop-member.invariant

pub params-returns-then-in_param : goal.params-returns-then-in_param
params-returns-then-in_param t c =
    sym (sym c.loop-param.invariant ∙ item_found c.args.scopes.now param_view c.args.list.now c.loop-param.param-index c.param-item.result c.loop-param-test.true c.param-item.is (sym c.in_param.ensures ∙ c.if-in_param.true))

pub params-loop-param-preserved : goal.params-loop-param-preserved
params-loop-param-preserved t c =
    item_next c.args.scopes.now param_view c.args.list.now c.loop-param.param-index c.param-item.result c.loop-param-test.true c.param-item.is (sym c.in_param.ensures ∙ c.if-in_param.false) ∙ c.loop-param.invariant

pub suffixes-returns-then-in_suffix : goal.suffixes-returns-then-in_suffix
suffixes-returns-then-in_suffix t c =
    sym (sym c.loop-suffix.invariant ∙ item_found c.args.scopes.now suffix_view c.args.list.now c.loop-suffix.suffix-index c.suffix-item.result c.loop-suffix-test.true c.suffix-item.is (sym c.in_suffix.ensures ∙ c.if-in_suffix.true))

pub suffixes-loop-suffix-preserved : goal.suffixes-loop-suffix-preserved
suffixes-loop-suffix-preserved t c =
    item_next c.args.scopes.now suffix_view c.args.list.now c.loop-suffix.suffix-index c.suffix-item.result c.loop-suffix-test.true c.suffix-item.is (sym c.in_suffix.ensures ∙ c.if-in_suffix.false) ∙ c.loop-suffix.invariant

pub in_declarator-returns-else-first : goal.in_declarator-returns-else-first
in_declarator-returns-else-first t c =
    let scopes = c.args.scopes.now in
    let whole = direct_is scopes c.args.declarator.now c.in-Direct.base c.in-Direct.list c.in-Direct.is in
    let first : reallocates scopes (base_tree c.in-Direct.base) ≡ false = cc in
    let rest = or_right (reallocates scopes (base_tree c.in-Direct.base)) (any_reallocates scopes (trees suffix_view c.in-Direct.list.items)) first in
    cc

pub kind-returns-then-first-2 : goal.kind-returns-then-first-2
kind-returns-then-first-2 t c =
    let scopes = c.args.scopes.now in
    let whole = cast_is scopes c.args.kind.now c.in-Cast.typename c.in-Cast.inner c.args.line c.in-Cast.is in
    let first : reallocates scopes (typename_view c.in-Cast.typename.value) ≡ true = cc in
    let rest = or_left (reallocates scopes (typename_view c.in-Cast.typename.value)) (reallocates scopes (expr_view c.in-Cast.inner.value)) first in
    cc

pub kind-returns-else-first-2 : goal.kind-returns-else-first-2
kind-returns-else-first-2 t c =
    let scopes = c.args.scopes.now in
    let whole = cast_is scopes c.args.kind.now c.in-Cast.typename c.in-Cast.inner c.args.line c.in-Cast.is in
    let first : reallocates scopes (typename_view c.in-Cast.typename.value) ≡ false = cc in
    let rest = or_right (reallocates scopes (typename_view c.in-Cast.typename.value)) (reallocates scopes (expr_view c.in-Cast.inner.value)) first in
    cc
