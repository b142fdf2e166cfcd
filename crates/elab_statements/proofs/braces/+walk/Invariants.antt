use Rattle.std.proofs.Common.{◌≡◌, ◌-◌, false, map, drop, length}
use Rattle.c_types.specs.Types.{plain}
use Rattle.c_tree.specs.StatementView.{trees, init_view}
use Rattle.elaboration.specs.Initializers.{elements, initialize_parts}
use Rattle.elab_statements.specs.PlainParts.{plain_part}
use Rattle.elab_statements.specs.PlainTarget.{plain_target}
use Rattle.elab_statements.proofs.braces.+walk.Given as goal

-- what is left decides

abbrev pub invariant-elements-loop-place : goal.invariant-elements-loop-place
invariant-elements-loop-place l =
    initialize_parts l.line (trees init_view (drop l.place l.list)) l.in_scalar (elements (length l.list - l.place) l.left l.at l.size (plain l.element)) (plain_target l.filled) l.state
    ≡ initialize_parts l.line (trees init_view l.list) l.in_scalar (elements (length l.list) l.count l.offset l.size (plain l.element)) (plain_target l.initial.filled) l.initial.state

abbrev pub invariant-members-loop-place : goal.invariant-members-loop-place
invariant-members-loop-place l =
    initialize_parts l.line (trees init_view (drop l.place l.list)) false (map plain_part (drop l.place l.parts)) (plain_target l.filled) l.state
    ≡ initialize_parts l.line (trees init_view l.list) false (map plain_part l.parts) (plain_target l.initial.filled) l.initial.state
