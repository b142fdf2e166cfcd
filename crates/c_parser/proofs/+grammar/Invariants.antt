-- Each call leaves less room, or goes on to a function that is nearer to the tokens. What a loop reads from where it is,
-- behind what it has read, is what the function reads from where it began.
use Rattle.std.proofs.Common.{◌≡◌, ◌≤◌, ◌<◌, ◌*◌, ◌+◌, ◌^◌, suc, Some}
use Rattle.c_tree.specs.Allowed.{no_words}
use Rattle.c_tree.specs.declared.word.Sign.TheVariants as s
use Rattle.c_tree.specs.Forms as f
use Rattle.c_tree.specs.Places.{Members, Declarator, Enumerators}
use Rattle.c_tree.specs.StatementView.{trees, expr_view, suffix_view, param_view, member_view}
use Rattle.c_tree.specs.Tree.{At, none, ◌▹◌}
use Rattle.c_tree.specs.View.{spec_tree, declarator_tree, enumerator_tree}
use Rattle.grammar_reading.specs.Declarators.{suffixes_from, param_at, specs_from, member_at, declarator_at, member_names_at, enumerator_at}
use Rattle.grammar_reading.specs.Expressions.{comma_from, binary_at, binary_from, postfix_from, argument_at}
use Rattle.grammar_reading.specs.Reading.{commas_from, list_from, goes_on, goes_on_inside}
use Rattle.grammar_reading.specs.Rooms.{less, read}
use Rattle.grammar_reading.specs.State.{at_mark, left_at, line_at}
use Rattle.parser_parts.specs.Tallies.{tally_of, total}
use Rattle.c_parser.proofs.+grammar.Given as goal

abbrev pub decreases-expression::expression : goal.decreases-expression::expression
decreases-expression::expression l = l.room * 1000 + 90

abbrev pub decreases-expression::leveled : goal.decreases-expression::leveled
decreases-expression::leveled l = l.room * 1000 + 80

abbrev pub decreases-expression::loose : goal.decreases-expression::loose
decreases-expression::loose l = l.room * 1000 + 70

abbrev pub decreases-expression::comma : goal.decreases-expression::comma
decreases-expression::comma l = l.room * 1000 + 65

abbrev pub decreases-expression::grow_comma : goal.decreases-expression::grow_comma
decreases-expression::grow_comma l = l.room * 1000 + 5

abbrev pub decreases-expression::assignment : goal.decreases-expression::assignment
decreases-expression::assignment l = l.room * 1000 + 60

abbrev pub decreases-expression::grow_assignment : goal.decreases-expression::grow_assignment
decreases-expression::grow_assignment l = l.room * 1000 + 5

abbrev pub decreases-expression::condition : goal.decreases-expression::condition
decreases-expression::condition l = l.room * 1000 + 55

abbrev pub decreases-expression::grow_condition : goal.decreases-expression::grow_condition
decreases-expression::grow_condition l = l.room * 1000 + 5

abbrev pub decreases-expression::operation : goal.decreases-expression::operation
decreases-expression::operation l = l.room * 1000 + 33

abbrev pub decreases-expression::operators : goal.decreases-expression::operators
decreases-expression::operators l = l.room * 1000 + 6

abbrev pub decreases-expression::commas : goal.decreases-expression::commas
decreases-expression::commas l = l.room * 1000 + 6

abbrev pub decreases-postfix::postfixes : goal.decreases-postfix::postfixes
decreases-postfix::postfixes l = l.room * 1000 + 11

abbrev pub decreases-expression::grow_operation : goal.decreases-expression::grow_operation
decreases-expression::grow_operation l = l.room * 1000 + 5

abbrev pub decreases-operand::cast : goal.decreases-operand::cast
decreases-operand::cast l = l.room * 1000 + 32

abbrev pub decreases-operand::cast_typename : goal.decreases-operand::cast_typename
decreases-operand::cast_typename l = l.room * 1000 + 5

abbrev pub decreases-operand::unary : goal.decreases-operand::unary
decreases-operand::unary l = l.room * 1000 + 30

abbrev pub decreases-operand::prefixed : goal.decreases-operand::prefixed
decreases-operand::prefixed l = l.room * 1000 + 20

abbrev pub decreases-operand::increment : goal.decreases-operand::increment
decreases-operand::increment l = l.room * 1000 + 5

abbrev pub decreases-operand::decrement : goal.decreases-operand::decrement
decreases-operand::decrement l = l.room * 1000 + 5

abbrev pub decreases-operand::operator : goal.decreases-operand::operator
decreases-operand::operator l = l.room * 1000 + 5

abbrev pub decreases-operand::size : goal.decreases-operand::size
decreases-operand::size l = l.room * 1000 + 20

abbrev pub decreases-operand::size_of_type : goal.decreases-operand::size_of_type
decreases-operand::size_of_type l = l.room * 1000 + 5

abbrev pub decreases-operand::size_of_value : goal.decreases-operand::size_of_value
decreases-operand::size_of_value l = l.room * 1000 + 5

abbrev pub decreases-operand::primary : goal.decreases-operand::primary
decreases-operand::primary l = l.room * 1000 + 20

abbrev pub decreases-operand::parens : goal.decreases-operand::parens
decreases-operand::parens l = l.room * 1000 + 5

abbrev pub decreases-postfix::postfix : goal.decreases-postfix::postfix
decreases-postfix::postfix l = l.room * 1000 + 28

abbrev pub decreases-postfix::grow_postfix : goal.decreases-postfix::grow_postfix
decreases-postfix::grow_postfix l = l.room * 1000 + 10

abbrev pub decreases-postfix::index : goal.decreases-postfix::index
decreases-postfix::index l = l.room * 1000 + 5

abbrev pub decreases-postfix::call : goal.decreases-postfix::call
decreases-postfix::call l = l.room * 1000 + 5

abbrev pub decreases-postfix::arguments : goal.decreases-postfix::arguments
decreases-postfix::arguments l = l.room * 1000 + 200

abbrev pub decreases-postfix::some_arguments : goal.decreases-postfix::some_arguments
decreases-postfix::some_arguments l = l.room * 1000 + 190

abbrev pub decreases-declarator::declarator : goal.decreases-declarator::declarator
decreases-declarator::declarator l = l.room * 1000 + 160

abbrev pub decreases-declarator::layers : goal.decreases-declarator::layers
decreases-declarator::layers l = l.room * 1000 + 155

abbrev pub decreases-declarator::pointer : goal.decreases-declarator::pointer
decreases-declarator::pointer l = l.room * 1000 + 100

abbrev pub decreases-declarator::direct : goal.decreases-declarator::direct
decreases-declarator::direct l = l.room * 1000 + 150

abbrev pub decreases-declarator::base : goal.decreases-declarator::base
decreases-declarator::base l = l.room * 1000 + 120

abbrev pub decreases-declarator::enclosed : goal.decreases-declarator::enclosed
decreases-declarator::enclosed l = l.room * 1000 + 110

abbrev pub decreases-declarator::suffixes : goal.decreases-declarator::suffixes
decreases-declarator::suffixes l = l.room * 1000 + 145

abbrev pub decreases-declarator::kept_suffix : goal.decreases-declarator::kept_suffix
decreases-declarator::kept_suffix l = l.room * 1000 + 140

abbrev pub decreases-declarator::suffix : goal.decreases-declarator::suffix
decreases-declarator::suffix l = l.room * 1000 + 135

abbrev pub decreases-declarator::array : goal.decreases-declarator::array
decreases-declarator::array l = l.room * 1000 + 110

abbrev pub decreases-declarator::maybe_length : goal.decreases-declarator::maybe_length
decreases-declarator::maybe_length l = l.room * 1000 + 200

abbrev pub decreases-declarator::function : goal.decreases-declarator::function
decreases-declarator::function l = l.room * 1000 + 130

abbrev pub decreases-declarator::open_function : goal.decreases-declarator::open_function
decreases-declarator::open_function l = l.room * 1000 + 125

abbrev pub decreases-declarator::parameter_list : goal.decreases-declarator::parameter_list
decreases-declarator::parameter_list l = l.room * 1000 + 110

abbrev pub decreases-declarator::params : goal.decreases-declarator::params
decreases-declarator::params l = l.room * 1000 + 500

abbrev pub decreases-declarator::some_params : goal.decreases-declarator::some_params
decreases-declarator::some_params l = l.room * 1000 + 490

abbrev pub decreases-declarator::param : goal.decreases-declarator::param
decreases-declarator::param l = l.room * 1000 + 480

abbrev pub decreases-declarator::typename : goal.decreases-declarator::typename
decreases-declarator::typename l = l.room * 1000 + 500

abbrev pub decreases-specifiers::plain_specs : goal.decreases-specifiers::plain_specs
decreases-specifiers::plain_specs l = l.room * 1000 + 150

abbrev pub decreases-specifiers::specs_by : goal.decreases-specifiers::specs_by
decreases-specifiers::specs_by l = l.room * 1000 + 140

abbrev pub decreases-specifiers::one_more : goal.decreases-specifiers::one_more
decreases-specifiers::one_more l = l.room * 1000 + 130

abbrev pub decreases-tags::record : goal.decreases-tags::record
decreases-tags::record l = l.room * 1000 + 120

abbrev pub decreases-tags::record_body : goal.decreases-tags::record_body
decreases-tags::record_body l = l.room * 1000 + 110

abbrev pub decreases-tags::enumeration : goal.decreases-tags::enumeration
decreases-tags::enumeration l = l.room * 1000 + 120

abbrev pub decreases-tags::enum_body : goal.decreases-tags::enum_body
decreases-tags::enum_body l = l.room * 1000 + 110

abbrev pub decreases-tags::members : goal.decreases-tags::members
decreases-tags::members l = l.room * 1000 + 500

abbrev pub decreases-tags::member : goal.decreases-tags::member
decreases-tags::member l = l.room * 1000 + 480

abbrev pub decreases-tags::member_names : goal.decreases-tags::member_names
decreases-tags::member_names l = l.room * 1000 + 470

abbrev pub decreases-tags::enumerators : goal.decreases-tags::enumerators
decreases-tags::enumerators l = l.room * 1000 + 500

abbrev pub decreases-tags::enumerator : goal.decreases-tags::enumerator
decreases-tags::enumerator l = l.room * 1000 + 480

abbrev pub decreases-tags::maybe_value : goal.decreases-tags::maybe_value
decreases-tags::maybe_value l = l.room * 1000 + 200

abbrev pub invariant-expression::commas-commas : goal.invariant-expression::commas-commas
invariant-expression::commas-commas l =
    (comma_from (less l.room) l.room l.turns l.line (expr_view l.whole.tree) l.reader ≡ comma_from (less l.room) l.room l.room l.line (expr_view l.fn.left.tree) l.fn.reader) × (l.whole.depth ≤ l.room)

abbrev pub decreases-expression::commas-commas : goal.decreases-expression::commas-commas
decreases-expression::commas-commas l = l.turns

abbrev pub invariant-expression::operation-levels : goal.invariant-expression::operation-levels
invariant-expression::operation-levels l =
    (binary_at (less l.room) l.room l.level l.fn.reader ≡ Some (expr_view l.whole.tree, l.reader)) × (l.whole.depth ≤ l.room)

abbrev pub invariant-expression::operators-operators : goal.invariant-expression::operators-operators
invariant-expression::operators-operators l =
    (binary_from (less l.room) l.room l.turns l.level l.line (expr_view l.whole.tree) l.reader ≡ binary_from (less l.room) l.room l.room l.level l.line (expr_view l.fn.left.tree) l.fn.reader) × (l.whole.depth ≤ l.room)

abbrev pub decreases-expression::operators-operators : goal.decreases-expression::operators-operators
decreases-expression::operators-operators l = l.turns

abbrev pub invariant-postfix::postfixes-postfixes : goal.invariant-postfix::postfixes-postfixes
invariant-postfix::postfixes-postfixes l =
    (postfix_from (less l.room) l.room l.turns l.line (expr_view l.whole.tree) l.reader ≡ postfix_from (less l.room) l.room l.room l.line (expr_view l.fn.left.tree) l.fn.reader) × (l.whole.depth ≤ l.room)

abbrev pub decreases-postfix::postfixes-postfixes : goal.decreases-postfix::postfixes-postfixes
decreases-postfix::postfixes-postfixes l = l.turns

abbrev pub invariant-postfix::some_arguments-arguments : goal.invariant-postfix::some_arguments-arguments
invariant-postfix::some_arguments-arguments l =
    (commas_from (argument_at (less l.room) l.room) goes_on f.Arguments l.turns (trees expr_view l.list.list.items) l.reader ≡ commas_from (argument_at (less l.room) l.room) goes_on f.Arguments (left_at l.fn.reader) none l.fn.reader) × (l.list.depth ≤ l.room)

abbrev pub decreases-postfix::some_arguments-arguments : goal.decreases-postfix::some_arguments-arguments
decreases-postfix::some_arguments-arguments l = l.turns

abbrev pub invariant-declarator::suffixes-suffixes : goal.invariant-declarator::suffixes-suffixes
invariant-declarator::suffixes-suffixes l =
    (suffixes_from (less l.room) l.room l.turns l.first (trees suffix_view l.list.list.items) l.reader ≡ suffixes_from (less l.room) l.room (suc (left_at l.fn.reader)) l.fn.is_name none l.fn.reader) × (l.list.layers + l.turns ≤ left_at l.fn.reader + 1) × (left_at l.fn.reader + 1000 < 2 ^ 64)

abbrev pub decreases-declarator::suffixes-suffixes : goal.decreases-declarator::suffixes-suffixes
decreases-declarator::suffixes-suffixes l = l.turns

abbrev pub invariant-declarator::some_params-params : goal.invariant-declarator::some_params-params
invariant-declarator::some_params-params l =
    (commas_from (param_at (less l.room) l.room) goes_on f.Params l.turns (trees param_view l.list.list.items) l.reader ≡ commas_from (param_at (less l.room) l.room) goes_on f.Params (left_at l.fn.reader) none l.fn.reader) × (l.list.depth ≤ l.room)

abbrev pub decreases-declarator::some_params-params : goal.decreases-declarator::some_params-params
decreases-declarator::some_params-params l = l.turns

abbrev pub invariant-specifiers::specs_by-words : goal.invariant-specifiers::specs_by-words
invariant-specifiers::specs_by-words l =
    (specs_from (less l.room) l.room l.turns l.plain (tally_of l.tally) (At l.line ▹ trees spec_tree l.words.list.items) l.reader ≡ specs_from (less l.room) l.room (suc (left_at l.fn.reader)) l.plain no_words (At (line_at l.fn.reader) ▹ none) l.fn.reader) × (l.words.depth ≤ l.room) × (total l.tally + l.turns ≤ left_at l.fn.reader + 1) × (left_at l.fn.reader + 1000 < 2 ^ 64)

abbrev pub decreases-specifiers::specs_by-words : goal.decreases-specifiers::specs_by-words
decreases-specifiers::specs_by-words l = l.turns

abbrev pub invariant-tags::members-members : goal.invariant-tags::members-members
invariant-tags::members-members l =
    (list_from (member_at (less l.room) l.room) (at_mark s.RightBrace) f.Members l.turns (trees member_view l.list.list.items) l.reader ≡ read l.room Members l.fn.reader) × (l.list.depth ≤ l.room)

abbrev pub decreases-tags::members-members : goal.decreases-tags::members-members
decreases-tags::members-members l = l.turns

abbrev pub invariant-tags::member_names-names : goal.invariant-tags::member_names-names
invariant-tags::member_names-names l =
    (commas_from (declarator_at (less l.room) l.room Declarator) goes_on f.MemberNames l.turns (trees declarator_tree l.list.list.items) l.reader ≡ member_names_at (less l.room) l.room l.fn.reader) × (l.list.depth ≤ l.room)

abbrev pub decreases-tags::member_names-names : goal.decreases-tags::member_names-names
decreases-tags::member_names-names l = l.turns

abbrev pub invariant-tags::enumerators-enumerators : goal.invariant-tags::enumerators-enumerators
invariant-tags::enumerators-enumerators l =
    (commas_from (enumerator_at (less l.room) l.room) goes_on_inside f.Enumerators l.turns (trees enumerator_tree l.list.list.items) l.reader ≡ read l.room Enumerators l.fn.reader) × (l.list.depth ≤ l.room)

abbrev pub decreases-tags::enumerators-enumerators : goal.decreases-tags::enumerators-enumerators
decreases-tags::enumerators-enumerators l = l.turns
