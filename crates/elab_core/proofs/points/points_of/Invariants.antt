use Rattle.std.proofs.Common.{◌≡◌, ℕ, ◌+◌, map, drop}
use Rattle.elab_base.specs.PlainPieces.{plain_piece}
use Rattle.elaboration.specs.Resolving.{point_in}
use Rattle.elab_core.specs.NumbersBy.{statements, point_at}
use Rattle.elab_core.proofs.points.points_of.Given as goal

-- the statements that are left stand before those that were gone through; a label leads to a point among these
abbrev pub invariant-loop-place : goal.invariant-loop-place
invariant-loop-place l = record {
  sum : l.before + statements (map plain_piece (drop l.place l.pieces)) ≡ l.total;
  at : (label : ℕ) → point_at l.points.items l.total label ≡ l.before + point_in (map plain_piece (drop l.place l.pieces)) label;
}
