use Rattle.std.proofs.Common.{◌≡◌, take}
use Rattle.std.specs.Prelude.{fold}
use Rattle.flat_codegen.specs.Emitting.{with_function}
use Rattle.flat_codegen.proofs.emitter.Emitter.functions.Given as goal

abbrev pub invariant-loop-place : goal.invariant-loop-place
invariant-loop-place l = l.self.code ≡ fold with_function l.fn.self.code (take l.place l.funcs)
