-- The words of the grammar, each with its one spelling (C99 6.4.1 and 6.4.6).
use Rattle.std.specs.Prelude.{◌≡◌, ℕ, List, codes}
use Rattle.c_lexer.specs.declared.token.TokenKind.{TokenKind}
use Rattle.c_lexer.specs.declared.token.TokenKind.TheVariants as kind
use Rattle.c_tree.specs.declared.word.Keyword.{Keyword}
use Rattle.c_tree.specs.declared.word.Keyword.TheVariants as k
use Rattle.c_tree.specs.declared.word.Sign.{Sign}
use Rattle.c_tree.specs.declared.word.Sign.TheVariants as s

-- how a keyword is spelled
unfoldable pub keyword_bytes : Keyword → List ℕ
keyword_bytes k.Void = codes "void"
keyword_bytes k.Char = codes "char"
keyword_bytes k.Short = codes "short"
keyword_bytes k.Int = codes "int"
keyword_bytes k.Long = codes "long"
keyword_bytes k.Signed = codes "signed"
keyword_bytes k.Unsigned = codes "unsigned"
keyword_bytes k.Struct = codes "struct"
keyword_bytes k.Union = codes "union"
keyword_bytes k.Enum = codes "enum"
keyword_bytes k.Static = codes "static"
keyword_bytes k.Extern = codes "extern"
keyword_bytes k.Typedef = codes "typedef"
keyword_bytes k.Const = codes "const"
keyword_bytes k.DelayFrees = codes "__delay_frees"
keyword_bytes k.If = codes "if"
keyword_bytes k.Else = codes "else"
keyword_bytes k.While = codes "while"
keyword_bytes k.Do = codes "do"
keyword_bytes k.For = codes "for"
keyword_bytes k.Switch = codes "switch"
keyword_bytes k.Case = codes "case"
keyword_bytes k.Default = codes "default"
keyword_bytes k.Break = codes "break"
keyword_bytes k.Continue = codes "continue"
keyword_bytes k.Return = codes "return"
keyword_bytes k.Sizeof = codes "sizeof"

-- how a sign is spelled
unfoldable pub sign_bytes : Sign → List ℕ
sign_bytes s.LeftBracket = codes "["
sign_bytes s.RightBracket = codes "]"
sign_bytes s.LeftParen = codes "("
sign_bytes s.RightParen = codes ")"
sign_bytes s.LeftBrace = codes "{"
sign_bytes s.RightBrace = codes "}"
sign_bytes s.Dot = codes "."
sign_bytes s.Arrow = codes "->"
sign_bytes s.PlusPlus = codes "++"
sign_bytes s.MinusMinus = codes "--"
sign_bytes s.Ampersand = codes "&"
sign_bytes s.Star = codes "*"
sign_bytes s.Plus = codes "+"
sign_bytes s.Minus = codes "-"
sign_bytes s.Tilde = codes "~"
sign_bytes s.Not = codes "!"
sign_bytes s.Slash = codes "/"
sign_bytes s.Percent = codes "%"
sign_bytes s.ShiftLeft = codes "<<"
sign_bytes s.ShiftRight = codes ">>"
sign_bytes s.Less = codes "<"
sign_bytes s.Greater = codes ">"
sign_bytes s.LessEqual = codes "<="
sign_bytes s.GreaterEqual = codes ">="
sign_bytes s.EqualEqual = codes "=="
sign_bytes s.NotEqual = codes "!="
sign_bytes s.Caret = codes "^"
sign_bytes s.Bar = codes "|"
sign_bytes s.AndAnd = codes "&&"
sign_bytes s.OrOr = codes "||"
sign_bytes s.Question = codes "?"
sign_bytes s.Colon = codes ":"
sign_bytes s.Semicolon = codes ";"
sign_bytes s.Equal = codes "="
sign_bytes s.StarEqual = codes "*="
sign_bytes s.SlashEqual = codes "/="
sign_bytes s.PercentEqual = codes "%="
sign_bytes s.PlusEqual = codes "+="
sign_bytes s.MinusEqual = codes "-="
sign_bytes s.ShiftLeftEqual = codes "<<="
sign_bytes s.ShiftRightEqual = codes ">>="
sign_bytes s.AmpersandEqual = codes "&="
sign_bytes s.CaretEqual = codes "^="
sign_bytes s.BarEqual = codes "|="
sign_bytes s.Comma = codes ","

-- what a token is to the grammar: a keyword or a sign that it names, a name, a constant or a string literal with its
-- spelling, or what it does not name
pub data Word : Type 0 where
  Key : (keyword : Keyword) → Word
  Mark : (sign : Sign) → Word
  Name : (bytes : List ℕ) → Word
  Int : (bytes : List ℕ) → Word
  Char : (bytes : List ℕ) → Word
  Str : (bytes : List ℕ) → Word
  Other : (kind : TokenKind) (bytes : List ℕ) → Word

-- the kind of the token that a word is
abbrev pub word_kind : Word → TokenKind
word_kind (Key keyword) = kind.Keyword
word_kind (Mark sign) = kind.Sign
word_kind (Name bytes) = kind.Name
word_kind (Int bytes) = kind.Int
word_kind (Char bytes) = kind.Char
word_kind (Str bytes) = kind.Str
word_kind (Other kind bytes) = kind

-- its spelling
abbrev pub word_bytes : Word → List ℕ
word_bytes (Key keyword) = keyword_bytes keyword
word_bytes (Mark sign) = sign_bytes sign
word_bytes (Name bytes) = bytes
word_bytes (Int bytes) = bytes
word_bytes (Char bytes) = bytes
word_bytes (Str bytes) = bytes
word_bytes (Other kind bytes) = bytes
