use Rattle.std.proofs.Common.{◌≡◌, ◌+◌, ap, sym, ◌∙◌, take, add-one}
use Rattle.c_types.specs.Types.{plain_list}
use Rattle.c_typing.specs.Callee.{plain_basics}
use Rattle.c_typing.proofs.Calls.{basics_push}
use Rattle.c_typing.proofs.callees.basic_types.Goals as goal

pub loop-param-preserved : goal.loop-param-preserved
loop-param-preserved c =
    ap plain_list c.in_ok-push.ensures.items
    ∙ basics_push c.loop-param.types.items c.args.params.now c.loop-param.param-index _ c.loop-param-test.true c.in_ok-ty.ensures c.loop-param.invariant
    ∙ ap (λ n. plain_basics (take n c.args.params.now)) (sym (add-one c.loop-param.param-index))
