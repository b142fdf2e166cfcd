-- The pieces by which an object is written.
use Rattle.std.specs.Prelude.{List, ℕ}
use Rattle.bad_free_report.specs.Json.{Null, Number, Text, Truth, written}
use Rattle.bad_free_report.specs.declared.json.Piece.{Piece}
use Rattle.bad_free_report.specs.declared.json.Piece.TheVariants as piece

-- what is written of a piece
abbrev pub piece_text : Piece → List ℕ
piece_text (piece.Between bytes) = bytes.now
piece_text piece.Null = written Null
piece_text (piece.Truth holds) = written (Truth holds)
piece_text (piece.Number n) = written (Number n)
piece_text (piece.Text bytes) = written (Text bytes.now)
