use Rattle.std.proofs.Common.{◌≡◌, ◌∙◌, Err, ap, sym, subst}
use Rattle.std.proofs.lemmas.Result.{err_from_is_err_and}
use Rattle.c_decls.specs.declared.constant.Constant.{Constant}
use Rattle.c_decls.specs.Refusals.{Checked, Meets}
use Rattle.c_decls.specs.Typed.{plain_typed}
use Rattle.c_decls.specs.Expressions.{constant_from}
use Rattle.c_typing.proofs.ConstantValues.{constant_is, refused_before, refusal_meets}
use Rattle.c_typing.proofs.api.constant.Goals as goal

pub returns : goal.returns
returns c =
    constant_is c.args.e.now.kind c.args.e.now.line c.args.scopes.now c.args.tags.now (plain_typed c.in_ok-x.x) c.in_ok-x.ensures
    ∙ ap (λ l. constant_from l (plain_typed c.in_ok-x.x).type (plain_typed c.in_ok-x.x).folded) (sym c.line_of.ensures)
    ∙ c.in_ok-constant.ensures

pub returns-in_err-x : goal.returns-in_err-x
returns-in_err-x c =
    let p = err_from_is_err_and c.from_residual.result c.from_residual.ensures.1 in
    rw (p.1, p.2)
    (refused_before c.args.e.now.kind c.args.e.now.line c.args.scopes.now c.args.tags.now c.in_err-x.field-0.0 c.in_err-x.ensures)

pub returns-in_err-constant : goal.returns-in_err-constant
returns-in_err-constant c =
    let p = err_from_is_err_and c.from_residual-in_err-constant.result c.from_residual-in_err-constant.ensures.1 in
    let error = c.in_err-constant.field-0.0 in
    let x = plain_typed c.in_ok-x.x in
    let whole =
    constant_is c.args.e.now.kind c.args.e.now.line c.args.scopes.now c.args.tags.now x c.in_ok-x.ensures
    ∙ ap (λ l. constant_from l x.type x.folded) (sym c.line_of.ensures) in
    rw (p.1, p.2)
    (subst (λ (w : Checked Constant). Meets (λ (k : Constant). k) (Err error) w) (sym whole)
    (refusal_meets (λ (k : Constant). k) error (constant_from c.line_of.result x.type x.folded) c.in_err-constant.ensures))
