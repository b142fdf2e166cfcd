use Rattle.std.proofs.Common.{arith}
use Rattle.std.proofs.lemmas.List.FromFn.{map-range_with_len_more}
use Rattle.meaning_state.specs.Living.{leads_on}
use Rattle.meaning_state.proofs.liveness.found_next.Goals as goal

pub loop-point-preserved : goal.loop-point-preserved
loop-point-preserved c =
    let at = c.loop-point.point in
    rw (map-range_with_len_more (leads_on c.args.body.now c.args.r c.args.found.now) 0 at at (omega arith), ← c.loop-point.invariant, ← c.leads_on.ensures) c.in_ok-push.ensures.items
