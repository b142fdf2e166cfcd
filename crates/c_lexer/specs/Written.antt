-- Tokens that are written one after another, each with a space or an end of line behind it.
use Rattle.std.specs.Prelude.{◌≡◌, ℕ, Bool, true, ◌==◌, ◌||◌, List, [], ◌∷◌, ◌++◌, map, length, All, IsTrue}
use Rattle.c_lexer.specs.Pieces.{IsToken, Longest}
use Rattle.c_lexer.specs.Tokens.{HasTokens}
use Rattle.c_lexer.specs.declared.piece.PieceKind.TheVariants.{Token}
use Rattle.c_lexer.specs.declared.token.TokenKind.{TokenKind}
use Rattle.c_lexer.specs.declared.token.Token.{Token as TextToken}

-- what may stand behind a token that is written: a space or byte 10
abbrev pub is_separator : ℕ → Bool
is_separator b = b == 32 || b == 10

-- a token as it is written: its kind, its bytes, and the byte behind it
pub record Written : Type 0 where
  pub kind : TokenKind
  pub bytes : List ℕ
  pub separator : ℕ

-- the bytes are a token of the kind, and a separator stands behind it
pub record IsWritten (w : Written) : Type 0 where
  pub token : IsToken w.kind w.bytes
  pub separated : IsTrue (is_separator w.separator)

-- the text that is written
abbrev pub written_text : List Written → List ℕ
written_text [] = []
written_text (w ∷ ws) = w.bytes ++ w.separator ∷ written_text ws

-- kinds and spellings, without lines
abbrev pub written_spellings : List Written → List (TokenKind × List ℕ)
written_spellings ws = map (λ w. (w.kind, w.bytes)) ws

-- the same of tokens that are read
abbrev pub token_spellings : List TextToken → List (TokenKind × List ℕ)
token_spellings tokens = map (λ token. (token.kind, token.bytes)) tokens

-- tokens that are written are read again, but for their lines
abbrev pub WrittenIsRead : Type 0
WrittenIsRead =
    (written : List Written) → All IsWritten written → (tokens : List TextToken) × HasTokens (written_text written) tokens
    × (token_spellings tokens ≡ written_spellings written)

-- a token is the longest piece before a separator
abbrev pub TokensAreLongest : Type 0
TokensAreLongest =
    (fresh : Bool) (kind : TokenKind) (w : List ℕ) (b : ℕ) (rest : List ℕ) → IsToken kind w → is_separator b ≡ true →
    Longest fresh (w ++ b ∷ rest) (record { kind = Token kind; len = length w })
