use Rattle.std.proofs.Common.{◌≡◌, map, take}
use Rattle.core_tree.specs.declared.program.Reg.{Reg}
use Rattle.flat_codegen.proofs.functions.kinds_of.Given as goal

abbrev pub invariant-loop-register : goal.invariant-loop-register
invariant-loop-register l = l.kinds ≡ map (λ (r : Reg). r.pointer) (take l.register-index l.registers)
