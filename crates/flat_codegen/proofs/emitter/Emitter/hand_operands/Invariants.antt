use Rattle.std.proofs.Common.{◌≡◌, map, take}
use Rattle.core_tree.specs.Statements.{operands}
use Rattle.object_meaning.specs.compiled.Handing.{hand_of}
use Rattle.flat_codegen.specs.Emitting.{with_instrs}
use Rattle.flat_codegen.proofs.emitter.Emitter.hand_operands.Given as goal

abbrev pub invariant-loop-place : goal.invariant-loop-place
invariant-loop-place l = l.self.code ≡ with_instrs l.fn.self.code l.line (map hand_of (take l.place (operands l.kind)))
