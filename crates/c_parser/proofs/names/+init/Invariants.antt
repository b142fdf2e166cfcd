use Rattle.std.proofs.Common.{◌≡◌, ◌*◌, ◌+◌}
use Rattle.c_tree.specs.Forms as f
use Rattle.c_tree.specs.Places.{Inits}
use Rattle.c_tree.specs.StatementView.{trees, init_view}
use Rattle.grammar_reading.specs.Declarators.{init_at}
use Rattle.grammar_reading.specs.Reading.{commas_from, goes_on_inside}
use Rattle.grammar_reading.specs.Rooms.{less, read}
use Rattle.c_parser.proofs.names.+init.Given as goal

abbrev pub decreases-init : goal.decreases-init
decreases-init l = l.room * 10 + 2

abbrev pub decreases-init_list : goal.decreases-init_list
decreases-init_list l = l.room * 10 + 1

abbrev pub decreases-inits : goal.decreases-inits
decreases-inits l = l.room * 10 + 3

-- what reading the rest behind the initializers so far gives is what reading them all gives
abbrev pub invariant-inits-inits : goal.invariant-inits-inits
invariant-inits-inits l =
    commas_from (init_at (less l.room) l.room) goes_on_inside f.Inits l.turns (trees init_view l.list.items) l.reader ≡ read l.room Inits l.fn.reader

abbrev pub decreases-inits-inits : goal.decreases-inits-inits
decreases-inits-inits l = l.turns
