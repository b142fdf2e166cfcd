use Rattle.std.proofs.Common.{◌≡◌, ◌∙◌, ap, sym, subst, length, vec_len, Err, arith}
use Rattle.std.specs.Prelude.{◌==◌}
use Rattle.std.proofs.lemmas.Result.{err_from_is_err_and}
use Rattle.c_types.specs.Types.{PlainType}
use Rattle.c_decls.specs.Refusals.{Checked, Meets}
use Rattle.c_typing.proofs.LayerLists.{param_refused}
use Rattle.c_typing.proofs.layers.with_param_layers.Goals as goal

pub returns-in_err-ty : goal.returns-in_err-ty
returns-in_err-ty c =
    let p = err_from_is_err_and c.from_residual.result c.from_residual.ensures.1 in
    let error = c.in_err-ty.field-0.0 in
    let long : vec_len c.pop.new.self ≡ length c.pop.new.self.items = omega (arith, c.pop.new.self.ok.0) in
    rw (p.1, p.2)
    (subst (λ (w : Checked PlainType). Meets (λ (type : PlainType). type) (Err error) w) c.loop-layer.invariant
    (param_refused c.args.tags.now c.loop-layer.left.items c.pop.new.self.items c.in-Some.layer c.loop-layer.ty c.is_empty.result error
    c.in-Some.ensures.items (c.is_empty.ensures ∙ ap (λ n. n == 0) long) c.in_err-ty.ensures))
