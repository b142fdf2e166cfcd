use Rattle.std.proofs.Common.{◌-◌}
use Rattle.hole_tree.specs.Granules.{IsSet}
use Rattle.hole_tree.proofs.holes.set_run.Given as goal

abbrev pub invariant-loop-granule : goal.invariant-loop-granule
invariant-loop-granule l = IsSet l.initial.row l.row l.place (l.granule - l.place) l.taken
