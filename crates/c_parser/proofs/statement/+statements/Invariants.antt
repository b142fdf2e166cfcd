-- Each call leaves less room, or goes on to a function that is nearer to the tokens.
use Rattle.std.proofs.Common.{◌≡◌, ◌*◌, ◌+◌}
use Rattle.c_tree.specs.declared.word.Sign.TheVariants as s
use Rattle.c_tree.specs.Forms as f
use Rattle.c_tree.specs.Places.{Items}
use Rattle.c_tree.specs.StatementView.{trees, stmt_view}
use Rattle.grammar_reading.specs.Reading.{list_from}
use Rattle.grammar_reading.specs.Rooms.{less, read}
use Rattle.grammar_reading.specs.State.{at_mark}
use Rattle.grammar_reading.specs.Statements as spec
use Rattle.c_parser.proofs.statement.+statements.Given as goal

abbrev pub decreases-statement : goal.decreases-statement
decreases-statement l = l.room * 20 + 10

abbrev pub decreases-unguarded : goal.decreases-unguarded
decreases-unguarded l = l.room * 20 + 9

abbrev pub decreases-by_keyword : goal.decreases-by_keyword
decreases-by_keyword l = l.room * 20 + 8

abbrev pub decreases-branch : goal.decreases-branch
decreases-branch l = l.room * 20 + 12

abbrev pub decreases-compound : goal.decreases-compound
decreases-compound l = l.room * 20 + 7

abbrev pub decreases-open : goal.decreases-open
decreases-open l = l.room * 20 + 6

abbrev pub decreases-block : goal.decreases-block
decreases-block l = l.room * 20 + 7

abbrev pub decreases-open_block : goal.decreases-open_block
decreases-open_block l = l.room * 20 + 5

abbrev pub decreases-delay : goal.decreases-delay
decreases-delay l = l.room * 20 + 5

abbrev pub decreases-branching : goal.decreases-branching
decreases-branching l = l.room * 20 + 5

abbrev pub decreases-otherwise : goal.decreases-otherwise
decreases-otherwise l = l.room * 20 + 4

abbrev pub decreases-else_branch : goal.decreases-else_branch
decreases-else_branch l = l.room * 20 + 3

abbrev pub decreases-while_loop : goal.decreases-while_loop
decreases-while_loop l = l.room * 20 + 5

abbrev pub decreases-do_loop : goal.decreases-do_loop
decreases-do_loop l = l.room * 20 + 5

abbrev pub decreases-for_loop : goal.decreases-for_loop
decreases-for_loop l = l.room * 20 + 5

abbrev pub decreases-for_rest : goal.decreases-for_rest
decreases-for_rest l = l.room * 20 + 4

abbrev pub decreases-for_step : goal.decreases-for_step
decreases-for_step l = l.room * 20 + 3

abbrev pub decreases-enclosed_body : goal.decreases-enclosed_body
decreases-enclosed_body l = l.room * 20 + 2

abbrev pub decreases-switch : goal.decreases-switch
decreases-switch l = l.room * 20 + 5

abbrev pub decreases-case : goal.decreases-case
decreases-case l = l.room * 20 + 5

abbrev pub decreases-default_case : goal.decreases-default_case
decreases-default_case l = l.room * 20 + 5

abbrev pub decreases-items : goal.decreases-items
decreases-items l = l.room * 20 + 14

abbrev pub decreases-item : goal.decreases-item
decreases-item l = l.room * 20 + 13

-- what reading the rest behind the items so far gives is what reading them all gives
abbrev pub invariant-items-all : goal.invariant-items-all
invariant-items-all l = list_from (spec.item_at (less l.room) l.room) (at_mark s.RightBrace) f.Items l.turns (trees stmt_view l.list.items) l.reader ≡ read l.room Items l.initial.reader

abbrev pub decreases-items-all : goal.decreases-items-all
decreases-items-all l = l.turns
