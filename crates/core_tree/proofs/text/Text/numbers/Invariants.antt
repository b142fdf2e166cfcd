use Rattle.std.proofs.Common.{◌≡◌, ◌++◌, map, take, decimal}
use Rattle.core_tree.specs.Listing.{spaced}
use Rattle.core_tree.proofs.text.Text.numbers.Given as goal

-- what the items so far are written as
abbrev pub invariant-loop-number : goal.invariant-loop-number
invariant-loop-number l = l.self ≡ l.fn.self ++ spaced (map decimal (take l.number-index l.numbers))
