use Rattle.std.proofs.Common.{refl, ◌∙◌}
use Rattle.count_insertion.specs.Points.{count_first}
use Rattle.flat_codegen.specs.Placing.{place_in}
use Rattle.flat_codegen.proofs.Pins.{same_point, taken, rest_left}
use Rattle.flat_codegen.proofs.Stepping.{read_at, points_more}
use Rattle.flat_codegen.proofs.emitter.Emitter.body.Goals as goal

pub statement-requires : goal.statement-requires
statement-requires c =
    c.requires.numbers c.loop-point.point c.stm-item.result
    (read_at c.as_slice-stm-items.result.now c.args.func.now.body c.as_slice-stm-items.ensures c.loop-point.point c.stm-item.result c.loop-point-test.true c.stm-item.is)

pub loop-point-preserved : goal.loop-point-preserved
loop-point-preserved c =
    let func = c.args.func.now in
    let n = c.loop-point.point in
    let stm = c.stm-item.result in
    let left = c.loop-point.left in
    let count = count_first c.in_ok-fit.field-0 left in
    let at = read_at c.as_slice-stm-items.result.now func.body c.as_slice-stm-items.ensures n stm c.loop-point-test.true c.stm-item.is in
    let many = same_point left c.in_ok-fit.field-0 n c.in_ok-fit.ensures count refl in
    let registers = c.in_ok-registers.ensures.taken ∙ taken func n stm at left c.loop-point.invariant.left count many (c.listed_pins_are_exact.ensures.counting func n stm at) in
    record {
      code = points_more (place_in c.args.places.now) func c.args.self.now.code c.loop-point.self.code c.statement.new.self.code n stm c.in_ok-registers.registers at c.loop-point.invariant.code registers c.in_ok-statement.ensures;
      left = c.in_ok-registers.ensures.left ∙ rest_left func n stm at left c.loop-point.invariant.left count many;
    }
