use Rattle.std.proofs.Common.{arith}
use Rattle.live_list.proofs.Sets.{walked_none, walked_more, walked_all}
use Rattle.live_list.proofs.lines.sets_of.Goals as goal

pub loop-point-init : goal.loop-point-init
loop-point-init c = walked_none c.args.func.now c.in_ok-live.live _ c.in_ok-sets.sets.items (omega arith) c.in_ok-live.ensures c.in_ok-sets.ensures.items

pub loop-point-preserved : goal.loop-point-preserved
loop-point-preserved c =
    walked_more c.args.func.now c.loop-point.point _ c.loop-point.live c.step_back.new.live c.in_ok-copy.field-0 c.loop-point.sets.items c.push.new.self.items (omega arith) c.loop-point.invariant
    c.step_back.ensures c.in_ok-copy.ensures c.in_ok-push.ensures.items

pub returns : goal.returns
returns c =
    walked_all c.args.func.now c.loop-point.point c.loop-point.live c.loop-point.sets.items c.reverse.new.self.items (omega arith) c.loop-point.invariant c.reverse.ensures.items
