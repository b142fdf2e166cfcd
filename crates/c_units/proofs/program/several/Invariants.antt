use Rattle.c_units.proofs.Words.Std.{length, map, reverse, ◌+◌, ◌≡◌}
use Rattle.c_units.proofs.Words.Trees.{unit_view}
use Rattle.c_units.proofs.Words.Units.{no_program, program_view, with_units}
use Rattle.c_units.proofs.program.several.Given as goal

-- the units that are left come behind those that were added
abbrev pub invariant-units : goal.invariant-units
invariant-units l =
    (l.number + length l.units.items ≡ length l.fn.units.items)
    × (with_units (l.number + 1) (map unit_view (reverse l.units.items)) (program_view l.program) ≡ with_units 1 (map unit_view l.fn.units.items) no_program)

abbrev pub decreases-units : goal.decreases-units
decreases-units l = length l.units.items
