use Rattle.std.proofs.Common.{◌≤◌, length, take}
use Rattle.std.specs.List.{All}
use Rattle.flat_code.specs.declared.program.Entry.{Entry}
use Rattle.code_rules.proofs.pins.most_registers.Given as goal

abbrev pub invariant-loop-entry : goal.invariant-loop-entry
invariant-loop-entry l = All (λ (e : Entry). length e.kinds ≤ l.most) (take l.entry-index l.funcs)
