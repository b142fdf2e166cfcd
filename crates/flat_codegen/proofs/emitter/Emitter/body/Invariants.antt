use Rattle.std.proofs.Common.{◌≡◌, take}
use Rattle.std.specs.Prelude.{fold}
use Rattle.std.specs.List.{enumerate_from}
use Rattle.flat_codegen.specs.Emitting.{with_point}
use Rattle.flat_codegen.specs.Placing.{place_in}
use Rattle.flat_codegen.proofs.Pins.{pins_from}
use Rattle.flat_codegen.proofs.emitter.Emitter.body.Given as goal

abbrev pub invariant-loop-point : goal.invariant-loop-point
invariant-loop-point l = record {
  code : l.self.code ≡ fold (with_point (place_in l.places) l.func) l.fn.self.code (enumerate_from 0 (take l.point l.func.body));
  left : l.left ≡ pins_from l.func l.point;
}
