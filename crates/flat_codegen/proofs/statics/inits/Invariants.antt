use Rattle.std.proofs.Common.{take}
use Rattle.std.specs.Prelude.{All}
use Rattle.meaning_laws.specs.code.Objects.{IsByte}
use Rattle.flat_code.specs.declared.program.StaticInit.{StaticInit}
use Rattle.flat_codegen.specs.Statics.{AreInits}
use Rattle.flat_codegen.proofs.statics.inits.Given as goal

abbrev pub invariant-loop-one : goal.invariant-loop-one
invariant-loop-one l = record {
  first : AreInits (take l.one-index l.statics) l.inits;
  bytes : All (λ (init : StaticInit). All IsByte init.bytes) l.inits;
}
