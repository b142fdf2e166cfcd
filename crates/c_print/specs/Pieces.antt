-- The pieces of a format as a function of its bytes (C99 7.19.6.1). What it gives of other bytes means nothing.
use Rattle.std.specs.Prelude.{ℕ, suc, ◌==◌, nat_eq, cond, List, [], ◌∷◌, ◌++◌, length, slice_index, drop, take_while, find, unwrap_or}
use Rattle.std.specs.List.{starts_with}
use Rattle.std.specs.Char.{is_ascii_digit}
use Rattle.std.specs.Str.Parse.{digits_value}
use Rattle.hs_base.specs.declared.ends.IntKind.TheVariants.{I32}
use Rattle.c_print.specs.declared.piece.Piece.{Piece}
use Rattle.c_print.specs.declared.piece.Piece.TheVariants.{Plain, Item}
use Rattle.c_print.specs.declared.length.Length.{Length}
use Rattle.c_print.specs.declared.length.Length.TheVariants.{Absent, Hh, H, L, Ll, Z}
use Rattle.c_print.specs.Length.{length_bytes, is_one_of, kind_of}
use Rattle.c_print.specs.Item.{is_flag}

-- the length at the front; two letters win over one
abbrev pub length_at : List ℕ → Length
length_at bytes = unwrap_or (find (λ l. starts_with nat_eq bytes (length_bytes l)) (Hh ∷ H ∷ Ll ∷ L ∷ Z ∷ [])) Absent

-- an item of these flags (45 is a minus sign, 48 a zero), digits and length, its conversion in front of the bytes, and what stands behind it
abbrev pub item_of : List ℕ → List ℕ → Length → List ℕ → Piece × List ℕ
item_of flags digits l bytes =
    let conv = slice_index bytes 0 in
    (Item (is_one_of flags 45) (is_one_of flags 48) (digits_value 10 digits) conv (unwrap_or (kind_of l conv) I32), drop 1 bytes)

-- the item at the front, behind its percent sign: flags as far as they go, digits as far as they go, a length and a conversion
abbrev pub item_at : List ℕ → Piece × List ℕ
item_at bytes =
    let flags = take_while is_flag bytes in
    let from_width = drop (length flags) bytes in
    let digits = take_while is_ascii_digit from_width in
    let from_length = drop (length digits) from_width in
    let l = length_at from_length in
    item_of flags digits l (drop (length (length_bytes l)) from_length)

-- the plain byte or the item at the front, and what stands behind it; two percent signs are one plain byte
abbrev pub piece_at : ℕ → List ℕ → Piece × List ℕ
piece_at b rest =
    cond (b == 37) (cond (slice_index rest 0 == 37) (Plain (37 ∷ []), drop 1 rest) (item_at rest)) (Plain (b ∷ []), rest)

-- texts that meet are one text
abbrev pub join : Piece → List Piece → List Piece
join (Plain text) (Plain more ∷ pieces) = Plain (text ++ more) ∷ pieces
join piece pieces = piece ∷ pieces

-- so many plain bytes and items at most, read from the left
abbrev pub pieces_from : ℕ → List ℕ → List Piece
pieces_from (suc n) (b ∷ rest) = let front = piece_at b rest in join front.0 (pieces_from n front.1)
pieces_from n bytes = []

-- the pieces of a format: it has no more plain bytes and items than bytes
unfoldable pub pieces_of : List ℕ → List Piece
pieces_of bytes = pieces_from (length bytes) bytes
