use Rattle.std.proofs.Common.{◌≡◌}
use Rattle.c_tree.specs.View.{literal_leaves}
use Rattle.grammar_reading.specs.Expressions.{strings_from, strings_at}
use Rattle.c_parser.proofs.strings.strings.Given as goal

-- what reading the rest behind the literals so far gives is what reading them all gives
abbrev pub invariant-literals : goal.invariant-literals
invariant-literals l = strings_from l.turns (literal_leaves l.list) l.reader ≡ strings_at l.fn.reader

abbrev pub decreases-literals : goal.decreases-literals
decreases-literals l = l.turns
