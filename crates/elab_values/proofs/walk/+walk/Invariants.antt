use Rattle.std.proofs.Common.{◌≡◌, ◌+◌, ◌*◌, max, map}
use Rattle.c_tree.specs.declared.tree.Expr.{size-Expr}
use Rattle.c_tree.specs.StatementView.{trees, expr_view}
use Rattle.c_typing.specs.Callee.{plain_callee}
use Rattle.elab_rules.specs.PlainArguments.{plain_argument}
use Rattle.elab_values.specs.Arguments.{behind}
use Rattle.elab_values.proofs.Turns.{left}
use Rattle.elaboration.specs.Expressions.{arguments, parameters}
use Rattle.elab_values.proofs.walk.+walk.Given as goal

abbrev pub decreases-found : goal.decreases-found
decreases-found l = 8 * size-Expr l.tree.now

abbrev pub decreases-value_of : goal.decreases-value_of
decreases-value_of l = 8 * size-Expr l.tree.now + 1

abbrev pub decreases-unused_of : goal.decreases-unused_of
decreases-unused_of l = 8 * size-Expr l.tree.now + 1

abbrev pub decreases-place_of : goal.decreases-place_of
decreases-place_of l = 8 * size-Expr l.tree.now + 1

abbrev pub decreases-element : goal.decreases-element
decreases-element l = 8 * max (size-Expr l.e.now) (size-Expr l.g.now) + 2

abbrev pub decreases-dot : goal.decreases-dot
decreases-dot l = 8 * size-Expr l.e.now + 2

abbrev pub decreases-arrow : goal.decreases-arrow
decreases-arrow l = 8 * size-Expr l.e.now + 2

abbrev pub decreases-step : goal.decreases-step
decreases-step l = 8 * size-Expr l.e.now + 2

abbrev pub decreases-address : goal.decreases-address
decreases-address l = 8 * size-Expr l.e.now + 2

abbrev pub decreases-in_front : goal.decreases-in_front
decreases-in_front l = 8 * size-Expr l.e.now + 3

abbrev pub decreases-beside : goal.decreases-beside
decreases-beside l = 8 * max (size-Expr l.e.now) (size-Expr l.g.now) + 3

abbrev pub decreases-written : goal.decreases-written
decreases-written l = 8 * max (size-Expr l.e.now) (size-Expr l.g.now) + 3

abbrev pub decreases-unary : goal.decreases-unary
decreases-unary l = 8 * size-Expr l.e.now + 2

abbrev pub decreases-cast : goal.decreases-cast
decreases-cast l = 8 * size-Expr l.e.now + 3

abbrev pub decreases-cast_operand : goal.decreases-cast_operand
decreases-cast_operand l = 8 * size-Expr l.tree.now + 2

abbrev pub decreases-and : goal.decreases-and
decreases-and l = 8 * max (size-Expr l.e.now) (size-Expr l.g.now) + 2

abbrev pub decreases-or : goal.decreases-or
decreases-or l = 8 * max (size-Expr l.e.now) (size-Expr l.g.now) + 2

abbrev pub decreases-binary : goal.decreases-binary
decreases-binary l = 8 * max (size-Expr l.e.now) (size-Expr l.g.now) + 2

abbrev pub decreases-choose : goal.decreases-choose
decreases-choose l = 8 * max (size-Expr l.e.now) (max (size-Expr l.g.now) (size-Expr l.h.now)) + 2

abbrev pub decreases-assign : goal.decreases-assign
decreases-assign l = 8 * max (size-Expr l.e.now) (size-Expr l.g.now) + 2

abbrev pub decreases-change : goal.decreases-change
decreases-change l = 8 * max (size-Expr l.e.now) (size-Expr l.g.now) + 2

abbrev pub decreases-comma : goal.decreases-comma
decreases-comma l = 8 * max (size-Expr l.e.now) (size-Expr l.g.now) + 2

abbrev pub decreases-call : goal.decreases-call
decreases-call l = 8 * max (goal.size-call l) (size-Expr l.function.now) + 6

abbrev pub decreases-callee : goal.decreases-callee
decreases-callee l = 8 * size-Expr l.tree.now + 2

abbrev pub decreases-arguments : goal.decreases-arguments
decreases-arguments l = 8 * goal.size-arguments l + 5

abbrev pub decreases-argument : goal.decreases-argument
decreases-argument l = 8 * size-Expr l.e.now + 4

abbrev pub decreases-loose_argument : goal.decreases-loose_argument
decreases-loose_argument l = 8 * size-Expr l.e.now + 2

abbrev pub decreases-printed_argument : goal.decreases-printed_argument
decreases-printed_argument l = 8 * size-Expr l.e.now + 3

abbrev pub decreases-taken_argument : goal.decreases-taken_argument
decreases-taken_argument l = 8 * size-Expr l.e.now + 2

-- the arguments so far stand before those that are left
abbrev pub invariant-arguments-loop-place : goal.invariant-arguments-loop-place
invariant-arguments-loop-place l =
    arguments l.line (plain_callee l.target) (parameters (plain_callee l.target)) (trees expr_view l.list) l.initial.state
    ≡ behind (map plain_argument l.values.items) (left l.line (plain_callee l.target) (parameters (plain_callee l.target)) l.list l.place l.state)
