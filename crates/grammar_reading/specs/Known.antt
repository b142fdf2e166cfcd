-- Which word of the grammar a token is.
use Rattle.std.specs.Prelude.{ℕ, bytes_eq, if◌then◌else◌, List, [], ◌∷◌}
use Rattle.c_lexer.specs.declared.token.Token.{Token}
use Rattle.c_lexer.specs.declared.token.TokenKind.{TokenKind}
use Rattle.c_lexer.specs.declared.token.TokenKind.TheVariants as kind
use Rattle.c_tree.specs.declared.word.Keyword.{Keyword}
use Rattle.c_tree.specs.declared.word.Keyword.TheVariants as k
use Rattle.c_tree.specs.declared.word.Sign.{Sign}
use Rattle.c_tree.specs.declared.word.Sign.TheVariants as s
use Rattle.c_tree.specs.Words.{Word, Key, Mark, Name, Int, Char, Str, Other, keyword_bytes, sign_bytes}

-- the keywords that the grammar names
abbrev pub keywords : List Keyword
keywords =
    k.Void ∷ k.Char ∷ k.Short ∷ k.Int ∷ k.Long ∷ k.Signed ∷ k.Unsigned ∷ k.Struct ∷ k.Union ∷ k.Enum ∷ k.Static ∷
    k.Extern ∷ k.Typedef ∷ k.Const ∷ k.DelayFrees ∷ k.If ∷ k.Else ∷ k.While ∷ k.Do ∷ k.For ∷ k.Switch ∷ k.Case ∷
    k.Default ∷ k.Break ∷ k.Continue ∷ k.Return ∷ k.Sizeof ∷ []

-- the signs
abbrev pub signs : List Sign
signs =
    s.LeftBracket ∷ s.RightBracket ∷ s.LeftParen ∷ s.RightParen ∷ s.LeftBrace ∷ s.RightBrace ∷ s.Dot ∷ s.Arrow ∷
    s.PlusPlus ∷ s.MinusMinus ∷ s.Ampersand ∷ s.Star ∷ s.Plus ∷ s.Minus ∷ s.Tilde ∷ s.Not ∷ s.Slash ∷ s.Percent ∷
    s.ShiftLeft ∷ s.ShiftRight ∷ s.Less ∷ s.Greater ∷ s.LessEqual ∷ s.GreaterEqual ∷ s.EqualEqual ∷ s.NotEqual ∷
    s.Caret ∷ s.Bar ∷ s.AndAnd ∷ s.OrOr ∷ s.Question ∷ s.Colon ∷ s.Semicolon ∷ s.Equal ∷ s.StarEqual ∷ s.SlashEqual ∷
    s.PercentEqual ∷ s.PlusEqual ∷ s.MinusEqual ∷ s.ShiftLeftEqual ∷ s.ShiftRightEqual ∷ s.AmpersandEqual ∷
    s.CaretEqual ∷ s.BarEqual ∷ s.Comma ∷ []

-- the keyword with this spelling, or a token that the grammar does not name
abbrev pub keyword_among : List Keyword → List ℕ → Word
keyword_among [] bytes = Other kind.Keyword bytes
keyword_among (keyword ∷ rest) bytes = if bytes_eq (keyword_bytes keyword) bytes then Key keyword else keyword_among rest bytes

-- the sign with this spelling, or a token that the grammar does not name
abbrev pub sign_among : List Sign → List ℕ → Word
sign_among [] bytes = Other kind.Sign bytes
sign_among (sign ∷ rest) bytes = if bytes_eq (sign_bytes sign) bytes then Mark sign else sign_among rest bytes

-- the word that a token of a kind with a spelling is
unfoldable pub word_by : TokenKind → List ℕ → Word
word_by kind.Keyword bytes = keyword_among keywords bytes
word_by kind.Sign bytes = sign_among signs bytes
word_by kind.Name bytes = Name bytes
word_by kind.Int bytes = Int bytes
word_by kind.Char bytes = Char bytes
word_by kind.Str bytes = Str bytes

-- the word that a token is
abbrev pub word_of : Token → Word
word_of token = word_by token.kind token.bytes
