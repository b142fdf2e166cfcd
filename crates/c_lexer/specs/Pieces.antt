-- The pieces of a text: gaps, tokens, and what is neither (C99 6.4).
use Rattle.std.specs.Prelude.{◌≡◌, ℕ, ◌<◌, ◌≤◌, ◌==◌, Bool, true, false, if◌then◌else◌, List, [], ◌∷◌, length, take, Option, Some, None}
use Rattle.std.specs.List.{list_all}
use Rattle.c_lexer.specs.Bytes.{is_name_byte, is_number_byte, class_of}
use Rattle.c_lexer.specs.Names.{name_kind}
use Rattle.c_lexer.specs.Numbers.{base_of, number_value, form_of, is_held}
use Rattle.c_lexer.specs.Literals.{constant_end, string_end}
use Rattle.c_lexer.specs.Gaps.{is_on_line, comment_end, include_end}
use Rattle.c_lexer.specs.Signs.{is_sign}
use Rattle.c_lexer.specs.declared.bytes.ByteClass.{ByteClass}
use Rattle.c_lexer.specs.declared.bytes.ByteClass.TheVariants.{Space, Letter, Digit, Quote, Hash, Slash, Mark, Other}
use Rattle.c_lexer.specs.declared.number.Suffix.{Suffix}
use Rattle.c_lexer.specs.declared.token.TokenKind.{TokenKind}
use Rattle.c_lexer.specs.declared.token.TokenKind.TheVariants.{Int, Char, Str, Sign}
use Rattle.c_lexer.specs.declared.token.LexKind.TheVariants.{BadByte, OpenComment, Literal, BadNumber, LiteralTooWide, Directive}
use Rattle.c_lexer.specs.declared.piece.PieceKind.{PieceKind}
use Rattle.c_lexer.specs.declared.piece.PieceKind.TheVariants.{Gap, Token, Refused}
use Rattle.c_lexer.specs.declared.piece.Piece.{Piece}

-- whether there are no bytes
abbrev pub is_empty : List ℕ → Bool
is_empty [] = true
is_empty (b ∷ w) = false

-- the kind, where the piece ends at this length
abbrev pub ends_at : Option ℕ → ℕ → PieceKind → Option PieceKind
ends_at None length kind = None
ends_at (Some end) length kind = if end == length then Some kind else None

-- a digit and the longest run behind it: a number, or what does not have the form of one or has no type
abbrev pub number_kind_by : Option Suffix → List ℕ → PieceKind
number_kind_by None w = Refused BadNumber
number_kind_by (Some suffix) w = if is_held (base_of w) suffix (number_value w) then Token Int else Refused LiteralTooWide

-- the same, by its form
abbrev pub number_kind : List ℕ → PieceKind
number_kind w = number_kind_by (form_of w) w

-- how many bytes a literal has behind its opening quote
abbrev pub literal_end : ℕ → List ℕ → Option ℕ
literal_end quote text = if quote == 39 then constant_end text else string_end 0 text

-- what a literal is by its quote
abbrev pub literal_kind : ℕ → TokenKind
literal_kind quote = if quote == 39 then Char else Str

-- a quote and what follows: a literal, or the quote alone
abbrev pub quote_kind : ℕ → List ℕ → Option PieceKind
quote_kind quote [] = Some (Refused Literal)
quote_kind quote (b ∷ w) = ends_at (literal_end quote (b ∷ w)) (length (b ∷ w)) (Token (literal_kind quote))

-- a `#` and what follows: an accepted include line where no visible byte stands before it on its line, or the `#` alone
abbrev pub hash_kind : Bool → List ℕ → Option PieceKind
hash_kind fresh [] = Some (Refused (if fresh then Directive else BadByte))
hash_kind fresh (b ∷ w) = if fresh then ends_at (include_end (b ∷ w)) (length (b ∷ w)) Gap else None

-- behind `/*`: up to and with the first `*/`, or all bytes where none follows
abbrev pub block_kind : Option ℕ → ℕ → Option PieceKind
block_kind None length = Some (Refused OpenComment)
block_kind (Some end) length = ends_at (Some end) length Gap

-- a `/` and what follows: a comment up to the end of its line, a comment up to `*/`, or a sign
abbrev pub slash_kind : List ℕ → Option PieceKind
slash_kind [] = Some (Token Sign)
slash_kind (b ∷ w) =
    if b == 47 then (if list_all is_on_line w then Some Gap else None) else
    if b == 42 then block_kind (comment_end false w) (length w) else
    if is_sign (47 ∷ b ∷ w) then Some (Token Sign) else None

-- the kind of a piece, by the class of its first byte and what follows
abbrev pub kind_by : Bool → ByteClass → ℕ → List ℕ → Option PieceKind
kind_by fresh Space b w = if is_empty w then Some Gap else None
kind_by fresh Letter b w = if list_all is_name_byte w then Some (Token (name_kind (b ∷ w))) else None
kind_by fresh Digit b w = if list_all is_number_byte w then Some (number_kind (b ∷ w)) else None
kind_by fresh Quote b w = quote_kind b w
kind_by fresh Hash b w = hash_kind fresh w
kind_by fresh Slash b w = slash_kind w
kind_by fresh Mark b w = if is_sign (b ∷ w) then Some (Token Sign) else None
kind_by fresh Other b w = if is_empty w then Some (Refused BadByte) else None

-- the kind of these bytes as one whole piece, None where they are no piece. The flag says whether no visible byte
-- stands before them on their line.
unfoldable pub kind_of : Bool → List ℕ → Option PieceKind
kind_of fresh [] = None
kind_of fresh (b ∷ w) = kind_by fresh (class_of b) b w

-- the piece is the longest at the front of the text: it is within, it is formed, and no longer front is
pub record Longest (fresh : Bool) (text : List ℕ) (piece : Piece) : Type 0 where
  pub some : 0 < piece.len
  pub within : piece.len ≤ length text
  pub formed : kind_of fresh (take piece.len text) ≡ Some piece.kind
  pub longest : (more : ℕ) → piece.len < more → more ≤ length text → kind_of fresh (take more text) ≡ None

-- these bytes are a token of that kind
abbrev pub IsToken : TokenKind → List ℕ → Type 0
IsToken kind bytes = kind_of false bytes ≡ Some (Token kind)
