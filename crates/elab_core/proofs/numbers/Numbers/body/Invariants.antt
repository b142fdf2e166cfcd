use Rattle.std.proofs.Common.{◌≡◌, List, map}
use Rattle.elaboration.specs.Context.{Piece}
use Rattle.elaboration.specs.Resolving.{body_of}
use Rattle.elab_base.specs.PlainPieces.{plain_piece}
use Rattle.elab_core.specs.NumbersBy.{IsPlaced, numbers_by}
use Rattle.elab_core.proofs.numbers.Numbers.body.Given as goal

abbrev pub invariant-loop-piece : goal.invariant-loop-piece
invariant-loop-piece l =
    (all : List Piece) → IsPlaced l.self.points.now l.self.total all → l.body ≡ body_of (numbers_by l.self all) (map plain_piece l.yielded)
