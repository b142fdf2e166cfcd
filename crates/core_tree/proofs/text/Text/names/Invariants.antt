use Rattle.std.proofs.Common.{◌≡◌, ◌++◌, map, take}
use Rattle.core_tree.specs.Listing.{spaced}
use Rattle.core_tree.proofs.text.Text.names.Given as goal

-- what the items so far are written as
abbrev pub invariant-loop-name : goal.invariant-loop-name
invariant-loop-name l = l.self ≡ l.fn.self ++ spaced (map (λ name. name.now) (take l.name-index l.names))
