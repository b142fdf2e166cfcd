use Rattle.std.proofs.Common.{◌<◌, ◌≢◌, List, [], sym, subst}
use Rattle.std.specs.Prelude.{All}
use Rattle.object_meaning.specs.declared.pins.Pin.{Pin}
use Rattle.count_insertion.specs.declared.listed.PointPins.{PointPins}
use Rattle.count_insertion.specs.Points.{AreOfPoints}
use Rattle.count_insertion.proofs.Points.{not_none, points_more}
use Rattle.count_insertion.proofs.listed.FuncPins.push.Goals as goal

pub invariant_of-self : goal.invariant_of-self
invariant_of-self c =
    let at : PointPins = record { point = c.args.point; registers = c.args.registers } in
    let some : at.registers ≢ [] = not_none c.is_empty.result c.args.registers c.if-not-is_empty.true c.is_empty.ensures in
    let below = subst (λ (ps : List Pin). All (λ (pin : Pin). pin.point < c.args.point) ps) (sym c.self.view_is) c.requires in
    subst AreOfPoints (sym c.in_ok-push.ensures.items) (points_more c.self.inside.points.items at c.self.invariant some below)
