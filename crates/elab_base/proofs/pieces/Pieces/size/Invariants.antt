use Rattle.std.proofs.Common.{◌≡◌, map, take}
use Rattle.std.specs.List.{sum_by}
use Rattle.elaboration.specs.Externals.{piece_length}
use Rattle.elab_base.specs.PlainPieces.{plain_piece}
use Rattle.elab_base.proofs.pieces.Pieces.size.Given as goal

-- the size of the pieces so far
abbrev pub invariant-loop-piece : goal.invariant-loop-piece
invariant-loop-piece l = l.total ≡ sum_by piece_length (map plain_piece (take l.piece-index l.list))
