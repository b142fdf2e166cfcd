use Rattle.std.proofs.Common.{◌<◌, List, arith, length, subst, sym}
use Rattle.std.specs.Prelude.{All}
use Rattle.object_meaning.specs.declared.pins.Pin.{Pin}
use Rattle.count_insertion.specs.Inserted.{pins_before}
use Rattle.count_insertion.proofs.Collecting.{contradicts, place_more, popped, some_left}
use Rattle.count_insertion.proofs.Points.{all_before}
use Rattle.count_insertion.proofs.pinning.pins_of.Goals as goal

pub unreachable-requires : goal.unreachable-requires
unreachable-requires c =
    let inside : c.loop-place.place < length c.args.func.now.body = omega arith in
    let some = some_left c.args.func.now c.loop-place.place inside c.loop-place.lists.items c.loop-place.invariant.lists in
    contradicts (c.in_default.ensures.variant.1 (omega (arith, some)))

pub push-requires : goal.push-requires
push-requires c =
    let func = c.args.func.now in let n = c.loop-place.place in
    subst (λ (ps : List Pin). All (λ (pin : Pin). pin.point < c.in_ok-fit.field-0) ps) (sym c.loop-place.invariant.pins)
    (subst (λ k. All (λ (pin : Pin). pin.point < k) (pins_before func n)) (sym c.in_ok-fit.ensures) (all_before func n))

pub loop-place-preserved : goal.loop-place-preserved
loop-place-preserved c =
    let func = c.args.func.now in let n = c.loop-place.place in let lists = c.loop-place.lists.items in
    let inside : n < length func.body = omega arith in
    let known = c.loop-place.invariant in
    let parts = popped func n inside lists known.lists c.pop.new.self.items c.in-Some.registers c.in-Some.ensures.items in
    record {
      pins = place_more func n inside lists known.lists c.in_ok-fit.field-0 c.in-Some.registers c.loop-place.pins c.push.new.self c.in_ok-fit.ensures parts.1 known.pins c.in_ok-push.ensures;
      lists = parts.0;
    }
