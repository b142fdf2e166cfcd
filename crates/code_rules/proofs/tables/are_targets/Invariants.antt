use Rattle.std.proofs.Common.{take}
use Rattle.std.specs.List.{All}
use Rattle.flat_code.specs.WellFormed.{IsTarget}
use Rattle.code_rules.proofs.tables.are_targets.Given as goal

abbrev pub invariant-loop-pointer : goal.invariant-loop-pointer
invariant-loop-pointer l = All (IsTarget l.code) (take l.pointer-index l.pointers)
