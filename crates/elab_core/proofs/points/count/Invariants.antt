use Rattle.std.proofs.Common.{◌≡◌, map, drop}
use Rattle.elab_base.specs.PlainPieces.{plain_piece}
use Rattle.elab_core.specs.NumbersBy.{statements}
use Rattle.elab_core.proofs.points.count.Given as goal

abbrev pub invariant-loop-place : goal.invariant-loop-place
invariant-loop-place l = l.count ≡ statements (map plain_piece (drop l.place l.pieces))
