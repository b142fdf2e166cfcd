use Rattle.std.proofs.Common.{length, arith, rules, ◌≡◌, false}
use Rattle.local_liveness.proofs.Sweeping.{filled_none, filled_more, filled_all, filled_closed}
use Rattle.local_liveness.proofs.sweeps.fill.Goals as goal

pub loop-init : goal.loop-init
loop-init c = filled_none c.args.body.now (length c.args.live.now) c.args.fronts.now c.requires

pub loop-preserved : goal.loop-preserved
loop-preserved c =
    filled_more c.args.body.now (length c.args.live.now) c.loop.counter c.loop.fronts c.sweep.new.fronts (length c.loop.live) (length c.sweep.new.live) c.loop.invariant
    c.sweep.ensures.words (omega arith) c.sweep.ensures.fills

pub returns-then-not-sweep-clause-filled : goal.returns-then-not-sweep-clause-filled
returns-then-not-sweep-clause-filled c =
    let none : c.sweep.result ≡ false = search rules in
    filled_closed c.args.body.now (length c.args.live.now) c.loop.counter c.loop.fronts c.sweep.new.fronts (length c.loop.live) c.loop.invariant c.sweep.ensures.fills
    (c.sweep.ensures.same none)

pub returns-clause-filled : goal.returns-clause-filled
returns-clause-filled c = filled_all c.args.body.now (length c.args.live.now) c.loop.counter c.loop.fronts (length c.loop.live) (omega arith) c.loop.invariant
