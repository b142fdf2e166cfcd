-- The words that a report has for the kinds of bad places.
use Rattle.std.specs.Prelude.{ℕ, List, codes}
use Rattle.c_lexer.specs.declared.token.LexKind.{LexKind}
use Rattle.c_lexer.specs.declared.token.LexKind.TheVariants.{BadByte, OpenComment, Literal, BadNumber, LiteralTooWide, Directive}

-- the word of a kind
abbrev pub word_of : LexKind → List ℕ
word_of BadByte = codes "bad byte"
word_of OpenComment = codes "open comment"
word_of Literal = codes "literal"
word_of BadNumber = codes "bad number"
word_of LiteralTooWide = codes "literal too wide"
word_of Directive = codes "directive"
