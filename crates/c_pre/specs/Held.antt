-- What the table of macros and the tokens that are left keep.
use Rattle.std.specs.Prelude.{List, [], ◌∷◌, ◌++◌, map}
use Rattle.c_pre.specs.Rows.{segment}
use Rattle.c_pre.specs.declared.marked.Marked.{Marked}
use Rattle.c_pre.specs.declared.row.Piece.{Piece}
use Rattle.c_pre.specs.Table.{Table}
use Rattle.c_pre.specs.declared.macros.Macros.TheInside.{Inside}

abbrev pub table_of : Inside → Table
table_of m = record { count = m.count; names = map (λ entry. (entry.0.items, entry.1)) m.names.entries }

-- what tokens that are left are: those of their pieces
abbrev pub tokens_of : List Piece → List Marked
tokens_of [] = []
tokens_of (piece ∷ pieces) = segment piece.from piece.to piece.row.value.tokens.items ++ tokens_of pieces
