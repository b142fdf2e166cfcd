use Rattle.std.proofs.Common.{◌≡◌}
use Rattle.flat_code.specs.WellFormed.{handed_before}
use Rattle.code_rules.specs.Operands.{sorts_told}
use Rattle.code_rules.proofs.operands.handed_before.Given as goal

-- what is handed over directly before this instruction
abbrev pub invariant-loop-place : goal.invariant-loop-place
invariant-loop-place l = sorts_told l.told.items ≡ handed_before l.code l.entry l.place
