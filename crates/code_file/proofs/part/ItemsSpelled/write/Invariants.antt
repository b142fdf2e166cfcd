use Rattle.std.proofs.Common.{◌≡◌, ◌++◌, length, take}
use Rattle.std.specs.List.{All, flat_map}
use Rattle.code_file.specs.Spelling.{number}
use Rattle.code_file.proofs.part.ItemsSpelled.write.Given as goal

-- what the items so far are written as, and that their numbers are those of their types
abbrev pub invariant-loop-item : goal.invariant-loop-item
invariant-loop-item g l = record {
  bytes : l.text.items ≡ l.fn.text.items ++ (number (length l.fn.self) ++ flat_map g.T.Spelled.spelling (take l.item-index l.item-items));
  ranged : All g.T.Spelled.is_ranged (take l.item-index l.item-items);
}
