use Rattle.std.proofs.Common.{◌≡◌}
use Rattle.c_tree.specs.Forms as f
use Rattle.c_tree.specs.StatementView.{trees, entry_view}
use Rattle.grammar_reading.specs.Declarators.{entry_at}
use Rattle.grammar_reading.specs.Reading.{commas_from, goes_on}
use Rattle.grammar_reading.specs.Rooms.{less}
use Rattle.c_parser.proofs.names.names_more.Given as goal

-- what reading the rest behind the names so far gives is what reading them all gives
abbrev pub invariant-names : goal.invariant-names
invariant-names l =
    commas_from (entry_at (less l.room) l.room) goes_on f.Names l.turns (trees entry_view l.list) l.reader
    ≡ commas_from (entry_at (less l.room) l.room) goes_on f.Names l.fn.most (trees entry_view l.fn.some) l.fn.reader

abbrev pub decreases-names : goal.decreases-names
decreases-names l = l.turns
