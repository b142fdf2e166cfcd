-- Pieces of code, as the definition has them.
use Rattle.elab_base.specs.declared.pieces.Piece.{Piece}
use Rattle.elab_base.specs.declared.pieces.Piece.TheVariants as p
use Rattle.elaboration.specs.Context as plain

abbrev pub plain_piece : Piece → plain.Piece
plain_piece (p.Does stm) = plain.Does stm
plain_piece (p.Here label) = plain.Here label
