use Rattle.std.proofs.Common.{arith}
use Rattle.std.proofs.lemmas.Grind.{common_steps}
use Rattle.flat_codegen.proofs.Adding.{layouts_twice}
use Rattle.flat_codegen.proofs.Stepping.{numbers_more}
use Rattle.flat_codegen.proofs.emitter.Emitter.mems.Goals as goal

pub loop-mem-preserved : goal.loop-mem-preserved
loop-mem-preserved c = record {
  code = grind (arith, common_steps, layouts_twice);
  numbers = grind (arith, common_steps, numbers_more);
}
