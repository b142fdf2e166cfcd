use Rattle.std.proofs.Common.{◌≡◌, ◌++◌, map, take}
use Rattle.core_tree.specs.Listing.{spaced}
use Rattle.core_tree.specs.Parts.{word_text}
use Rattle.core_tree.proofs.text.Text.words.Given as goal

-- what the items so far are written as
abbrev pub invariant-loop-word : goal.invariant-loop-word
invariant-loop-word l = l.self ≡ l.fn.self ++ spaced (map word_text (take l.word-index l.words))
