-- The tokens of a text, or its first bad place (C99 5.1.1.2 and 6.4).
use Rattle.std.specs.Prelude.{◌≡◌, ℕ, ◌+◌, ◌≤◌, ◌==◌, true, ◌||◌, ◌&&◌, if◌then◌else◌, List, [], ◌∷◌, take, drop, Result, Ok, Err, ◌⊎◌, ⊤}
use Rattle.c_lexer.specs.Bytes.{is_space}
use Rattle.c_lexer.specs.Pieces.{Longest, IsToken}
use Rattle.c_lexer.specs.declared.place.Place.{Place}
use Rattle.c_lexer.specs.declared.piece.PieceKind.{PieceKind}
use Rattle.c_lexer.specs.declared.piece.PieceKind.TheVariants.{Gap, Token, Refused}
use Rattle.c_lexer.specs.declared.piece.Piece.{Piece}
use Rattle.c_lexer.specs.declared.token.Token.{Token as TextToken}
use Rattle.c_lexer.specs.declared.token.LexKind.{LexKind}
use Rattle.c_lexer.specs.declared.token.LexError.{LexError}
use Rattle.c_lexer.specs.declared.token.LexError.TheVariants.{Bad as BadPlace, NoMemory}

-- where a text begins: line 1, no visible byte before
abbrev pub first_place : Place
first_place = record { line = 1; fresh = true }

-- the place behind one byte: a line ends at and holds its byte 10, and white space is not visible
unfoldable pub next_place : Place → ℕ → Place
next_place place b = record {
  line = if b == 10 then place.line + 1 else place.line;
  fresh = b == 10 || (place.fresh && is_space b);
}

-- the place behind some bytes
abbrev pub behind : Place → List ℕ → Place
behind place [] = place
behind place (b ∷ w) = behind (next_place place b) w

-- from a place on, the text is cut into these pieces, each the longest at its place
abbrev pub IsCut : Place → List ℕ → List Piece → Type 0
IsCut place text [] = text ≡ []
IsCut place text (piece ∷ pieces) =
    Longest place.fresh text piece
    × IsCut (behind place (take piece.len text)) (drop piece.len text) pieces

-- one token more in front
abbrev pub with_token : TextToken → Result (List TextToken) LexError → Result (List TextToken) LexError
with_token token (Ok tokens) = Ok (token ∷ tokens)
with_token token (Err error) = Err error

-- what a piece of this kind, with this line and these bytes, makes of the answer of the rest
abbrev pub answer_with : PieceKind → ℕ → List ℕ → Result (List TextToken) LexError → Result (List TextToken) LexError
answer_with Gap line bytes rest = rest
answer_with (Token kind) line bytes rest = with_token (record { line = line; kind = kind; bytes = bytes }) rest
answer_with (Refused kind) line bytes rest = Err (BadPlace kind line)

-- the tokens of a text that is cut into these pieces, each with the line of its first byte, or the first piece that is
-- refused
abbrev pub answer_of : Place → List ℕ → List Piece → Result (List TextToken) LexError
answer_of place text [] = Ok []
answer_of place text (piece ∷ pieces) =
    answer_with piece.kind place.line (take piece.len text)
    (answer_of (behind place (take piece.len text)) (drop piece.len text) pieces)

-- the text has this answer: its tokens, or its first bad place
abbrev pub HasAnswer : List ℕ → Result (List TextToken) LexError → Type 0
HasAnswer text answer = (pieces : List Piece) × IsCut first_place text pieces × (answer_of first_place text pieces ≡ answer)

-- the text has these tokens
abbrev pub HasTokens : List ℕ → List TextToken → Type 0
HasTokens text tokens = HasAnswer text (Ok tokens)

-- the first bad place of the text has this kind and this line
abbrev pub HasBadPlace : List ℕ → LexKind → ℕ → Type 0
HasBadPlace text kind line = HasAnswer text (Err (BadPlace kind line))

-- the text is refused for this cause: its first bad place, or want of memory, of which nothing is said
abbrev pub IsRefused : List ℕ → LexError → Type 0
IsRefused text (BadPlace kind line) = HasBadPlace text kind line
IsRefused text NoMemory = ⊤

-- a token has the form of its kind, and its line is at least 1
abbrev pub IsLexed : TextToken → Type 0
IsLexed token = IsToken token.kind token.bytes × (1 ≤ token.line)

-- whatever answer the text has, it is this one, unless memory was wanting
abbrev pub IsOnlyAnswer : List ℕ → Result (List TextToken) LexError → Type 0
IsOnlyAnswer text found =
    (answer : Result (List TextToken) LexError) → HasAnswer text answer → (found ≡ answer) ⊎ (found ≡ Err NoMemory)

-- every text has exactly one answer
abbrev pub OneAnswer : Type 0
OneAnswer =
    (text : List ℕ) → (answer : Result (List TextToken) LexError) × HasAnswer text answer
    × ((other : Result (List TextToken) LexError) → HasAnswer text other → other ≡ answer)
