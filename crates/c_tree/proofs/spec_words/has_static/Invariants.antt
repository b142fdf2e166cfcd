use Rattle.std.proofs.Common.{◌≡◌, drop}
use Rattle.c_tree.specs.SpecWords.{has_static}
use Rattle.c_tree.specs.View.{spec_tree}
use Rattle.c_tree.specs.StatementView.{trees}
use Rattle.c_tree.proofs.spec_words.has_static.Given as goal

-- the words that are left decide
abbrev pub invariant-loop-word : goal.invariant-loop-word
invariant-loop-word l = has_static (trees spec_tree (drop l.word-index l.list)) ≡ has_static (trees spec_tree l.list)
