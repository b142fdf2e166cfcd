-- Code that stands behind other code.
use Rattle.std.specs.Prelude.{◌≡◌, List, ◌++◌}
use Rattle.elaboration.specs.Context.{Piece, Context}

-- pieces with more behind them
pub record Behind (xs ys : List Piece) : Type 0 where
  pub more : List Piece
  pub is : ys ≡ xs ++ more

abbrev pub From : List Piece → Context → Type 0
From xs d = Behind xs d.code.pieces
