use Rattle.std.proofs.Common.{◌≡◌, ◌++◌, map, take}
use Rattle.core_tree.specs.Listing.{spaced, atom_word}
use Rattle.core_tree.proofs.text.Text.atoms.Given as goal

-- what the items so far are written as
abbrev pub invariant-loop-atom : goal.invariant-loop-atom
invariant-loop-atom l = l.self ≡ l.fn.self ++ spaced (map atom_word (take l.atom-index l.atoms))
