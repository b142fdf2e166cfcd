use Rattle.std.proofs.Common.{◌≡◌, List, Bool, map, take, ap, ◌∙◌}
use Rattle.std.specs.List.{slice_get}
use Rattle.std.proofs.lemmas.Result.{IfOk-weaker}
use Rattle.flat_code.specs.Table.{all_there, call_takes, sort_of}
use Rattle.code_rules.proofs.Told.{first_sorts}
use Rattle.code_rules.proofs.operands.parameter_sorts.Goals as goal

pub returns-in-Some : goal.returns-in-Some
returns-in-Some c =
    let callee = c.in-Some.callee.now in
    let kinds = c.as_slice-kinds.result.now in
    let e : map sort_of (take c.min-count.result kinds) ≡ call_takes (slice_get c.args.code.now.funcs c.args.function) =
    ap (λ n. map sort_of (take n kinds)) c.min-count.ensures ∙ first_sorts kinds callee.params
    ∙ ap (λ (ks : List Bool). take callee.params (map sort_of ks)) c.as_slice-kinds.ensures ∙ ap call_takes c.in-Some.ensures.item in
    IfOk-weaker c.register_sorts.result _ _ (λ told h. h ∙ ap all_there e) c.register_sorts.ensures
