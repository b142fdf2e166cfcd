-- what reading the rest behind the declarations so far gives is what reading them all gives
use Rattle.std.proofs.Common.{◌≡◌}
use Rattle.c_tree.specs.StatementView.{trees, decl_view}
use Rattle.c_tree.specs.Tree.{none}
use Rattle.grammar_reading.specs.Rooms.{text_from}
use Rattle.c_parser.proofs.unit.externals.Given as goal

abbrev pub invariant-all : goal.invariant-all
invariant-all l = text_from l.left (trees decl_view l.list) l.reader ≡ text_from l.turns none l.initial.reader

abbrev pub decreases-all : goal.decreases-all
decreases-all l = l.left
