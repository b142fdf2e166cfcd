use Rattle.std.proofs.Common.{◌≡◌, take}
use Rattle.std.specs.List.{flat_map}
use Rattle.core_tree.specs.Sorts.{piece_takes}
use Rattle.flat_code.specs.Table.{all_there}
use Rattle.code_rules.specs.Operands.{sorts_told}
use Rattle.code_rules.proofs.operands.piece_sorts.Given as goal

abbrev pub invariant-loop-piece : goal.invariant-loop-piece
invariant-loop-piece l = sorts_told l.told.items ≡ all_there (flat_map piece_takes (take l.piece-index l.pieces))
