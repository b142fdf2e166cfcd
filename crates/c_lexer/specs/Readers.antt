-- The longest piece at the front of a text, computed. `Longest` says what it is; this is how it is found.
use Rattle.std.specs.Prelude.{◌≡◌, ⊤, ℕ, zero, suc, ◌+◌, ◌-◌, ◌++◌, Bool, false, ◌==◌, ◌&&◌, nat_le, if◌then◌else◌, List, [], ◌∷◌, length, take, Option, Some, None}
use Rattle.std.specs.List.{prefix_len}
use Rattle.c_lexer.specs.Bytes.{is_name_byte, is_number_byte, class_of}
use Rattle.c_lexer.specs.Names.{name_kind}
use Rattle.c_lexer.specs.Gaps.{is_on_line, comment_end, include_end}
use Rattle.c_lexer.specs.Signs.{is_double_sign, is_triple_sign}
use Rattle.c_lexer.specs.Pieces.{number_kind, literal_end, literal_kind}
use Rattle.c_lexer.specs.declared.bytes.ByteClass.{ByteClass}
use Rattle.c_lexer.specs.declared.bytes.ByteClass.TheVariants.{Space, Letter, Digit, Quote, Hash, Slash, Mark, Other}
use Rattle.c_lexer.specs.declared.token.TokenKind.TheVariants.{Sign}
use Rattle.c_lexer.specs.declared.token.LexKind.TheVariants.{BadByte, OpenComment, Literal, Directive}
use Rattle.c_lexer.specs.declared.piece.PieceKind.{PieceKind}
use Rattle.c_lexer.specs.declared.piece.PieceKind.TheVariants.{Gap, Token, Refused}
use Rattle.c_lexer.specs.declared.piece.Piece.{Piece}
use Rattle.c_lexer.specs.declared.place.Place.{Place}
use Rattle.c_lexer.specs.declared.token.Token.{Token as TextToken}
use Rattle.c_lexer.specs.declared.token.LexError.{LexError}
use Rattle.c_lexer.specs.declared.token.LexError.TheVariants.{Bad as BadPlace, NoMemory}
use Rattle.c_lexer.specs.Tokens.{next_place}

-- a piece of a kind and a length
abbrev pub piece : PieceKind → ℕ → Piece
piece kind len = record { kind = kind; len = len }

-- the longest sign at the front of a text whose first byte is a sign
unfoldable pub sign_length : List ℕ → ℕ
sign_length text =
    if nat_le 3 (length text) && is_triple_sign (take 3 text) then 3 else
    if nat_le 2 (length text) && is_double_sign (take 2 text) then 2 else 1

-- the name or keyword at the front of a text
abbrev pub name_piece : List ℕ → Piece
name_piece text =
    let n = prefix_len is_name_byte text in piece (Token (name_kind (take n text))) n

-- the number at the front of a text, or what does not have the form of one
abbrev pub number_piece : List ℕ → Piece
number_piece text =
    let n = prefix_len is_number_byte text in piece (number_kind (take n text)) n

-- with a first byte before it: the piece up to an end, or that byte alone
abbrev pub piece_to : Option ℕ → PieceKind → PieceKind → Piece
piece_to None kind other = piece other 1
piece_to (Some end) kind other = piece kind (1 + end)

-- behind a quote: the literal, or the quote alone
abbrev pub literal_piece : ℕ → List ℕ → Piece
literal_piece quote rest = piece_to (literal_end quote rest) (Token (literal_kind quote)) (Refused Literal)

-- behind a `#`: an include line, or the `#` alone
abbrev pub hash_piece : Bool → List ℕ → Piece
hash_piece fresh rest =
    piece_to (if fresh then include_end rest else None) Gap (Refused (if fresh then Directive else BadByte))

-- behind `/*`: the comment, or all of the text
abbrev pub block_piece : Option ℕ → List ℕ → Piece
block_piece None rest = piece (Refused OpenComment) (2 + length rest)
block_piece (Some end) rest = piece Gap (2 + end)

-- a `/` and the rest
abbrev pub slash_piece : ℕ → List ℕ → Piece
slash_piece b [] = piece (Token Sign) (sign_length (b ∷ []))
slash_piece b (c ∷ w) =
    if c == 47 then piece Gap (2 + prefix_len is_on_line w) else
    if c == 42 then block_piece (comment_end false w) w else piece (Token Sign) (sign_length (b ∷ c ∷ w))

-- the piece at the front of a text, by the class of its first byte and the rest
abbrev pub piece_by : Bool → ByteClass → ℕ → List ℕ → Piece
piece_by fresh Space b rest = piece Gap 1
piece_by fresh Letter b rest = name_piece (b ∷ rest)
piece_by fresh Digit b rest = number_piece (b ∷ rest)
piece_by fresh Quote b rest = literal_piece b rest
piece_by fresh Hash b rest = hash_piece fresh rest
piece_by fresh Slash b rest = slash_piece b rest
piece_by fresh Mark b rest = piece (Token Sign) (sign_length (b ∷ rest))
piece_by fresh Other b rest = piece (Refused BadByte) 1

-- the piece at the front of a text that is not empty
unfoldable pub piece_at : Bool → List ℕ → Piece
piece_at fresh [] = piece Gap 0
piece_at fresh (b ∷ rest) = piece_by fresh (class_of b) b rest

-- the pieces of a text, from a place on. The first `inner` bytes belong to a piece that began before.
unfoldable pub pieces_from : Place → ℕ → List ℕ → List Piece
pieces_from place inner [] = []
pieces_from place (suc inner) (b ∷ w) = pieces_from (next_place place b) inner w
pieces_from place zero (b ∷ w) =
    piece_at place.fresh (b ∷ w) ∷ pieces_from (next_place place b) ((piece_at place.fresh (b ∷ w)).len - 1) w

-- a piece of this kind, with this line and these bytes, makes these tokens of those before it
abbrev pub TakesPiece : PieceKind → ℕ → List ℕ → List TextToken → List TextToken → Type 0
TakesPiece Gap line bytes before after = after ≡ before
TakesPiece (Token kind) line bytes before after =
    after ≡ before ++ record { line = line; kind = kind; bytes = bytes } ∷ []
TakesPiece (Refused kind) line bytes before after = ⊥

-- the error is that of a piece of this kind with this line, or want of memory
abbrev pub RefusesPiece : PieceKind → ℕ → LexError → Type 0
RefusesPiece kind line NoMemory = ⊤
RefusesPiece kind line (BadPlace found at) = (kind ≡ Refused found) × (line ≡ at)
