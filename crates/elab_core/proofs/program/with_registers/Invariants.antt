use Rattle.std.proofs.Common.{◌≡◌, ◌++◌, None}
use Rattle.std.specs.Prelude.{replicate}
use Rattle.core_tree.specs.declared.program.Reg.{Reg}
use Rattle.elab_core.proofs.program.with_registers.Given as goal

abbrev pub invariant-loop-made : goal.invariant-loop-made
invariant-loop-made l =
    let register : Reg = record { name = None; pointer = l.pointer } in
    l.registers.items ≡ l.fn.registers.items ++ replicate l.made register
