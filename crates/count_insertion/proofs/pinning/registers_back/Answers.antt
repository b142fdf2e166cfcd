use Rattle.std.proofs.Common.{◌≡◌, ◌-◌, arith, subst, sym}
use Rattle.count_insertion.proofs.Collecting.{Collected, collected_all, collected_more, collected_none}
use Rattle.count_insertion.proofs.pinning.registers_back.Goals as goal

pub loop-point-init : goal.loop-point-init
loop-point-init c =
    let func = c.args.func.now in
    subst (Collected func c.len-point.result c.in_ok-live.live) (sym c.in_ok-lists.ensures.items)
    (collected_none func c.len-point.result c.in_ok-live.live c.len-point.ensures c.in_ok-live.ensures)

pub loop-point-preserved : goal.loop-point-preserved
loop-point-preserved c =
    collected_more c.args.func.now c.loop-point.point (c.loop-point.point - 1) c.loop-point.live c.step_back.new.live c.in_ok-registers_at.field-0
    c.loop-point.lists.items c.push.new.self.items (omega arith) c.loop-point.invariant c.step_back.ensures c.in_ok-registers_at.ensures c.in_ok-push.ensures.items

pub returns : goal.returns
returns c =
    let first : c.loop-point.point ≡ 0 = omega arith in
    collected_all c.args.func.now c.loop-point.point c.loop-point.live c.loop-point.lists.items first c.loop-point.invariant
