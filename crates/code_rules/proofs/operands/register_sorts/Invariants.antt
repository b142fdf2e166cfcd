use Rattle.std.proofs.Common.{◌≡◌, map, take}
use Rattle.flat_code.specs.Table.{all_there, sort_of}
use Rattle.code_rules.specs.Operands.{sorts_told}
use Rattle.code_rules.proofs.operands.register_sorts.Given as goal

abbrev pub invariant-loop-kind : goal.invariant-loop-kind
invariant-loop-kind l = sorts_told l.told.items ≡ all_there (map sort_of (take l.kind-index l.kinds))
