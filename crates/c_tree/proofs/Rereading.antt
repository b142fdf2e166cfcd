-- Words that are written are read again.
use Rattle.std.proofs.Common.{◌≡◌, ℕ, Bool, true, List, [], ◌∷◌, map, All, refl, ap, ◌∙◌}
use Rattle.std.proofs.lemmas.List.Elements.{All-nil, All-cons, All-head, All-tail}
use Rattle.c_lexer.specs.Bytes.{is_space, is_blank, is_letter, is_digit, is_name_byte, is_mark, class_of}
use Rattle.c_lexer.specs.Names.{is_keyword}
use Rattle.c_lexer.specs.Signs.{is_double_sign, is_triple_sign}
use Rattle.c_lexer.specs.Gaps.{comment_end}
use Rattle.c_lexer.specs.Pieces.{kind_of, IsToken}
use Rattle.c_lexer.specs.Written.{Written, IsWritten, is_separator, written_spellings, WrittenIsRead}
use Rattle.c_lexer.specs.declared.token.TokenKind.TheVariants as kind
use Rattle.c_tree.specs.declared.word.Keyword.{Keyword}
use Rattle.c_tree.specs.declared.word.Keyword.TheVariants as k
use Rattle.c_tree.specs.declared.word.Sign.{Sign}
use Rattle.c_tree.specs.declared.word.Sign.TheVariants as s
use Rattle.c_tree.specs.Words.{Word, Key, Mark, Name, Int, Char, Str, Other, word_kind, word_bytes, keyword_bytes, sign_bytes}
use Rattle.c_tree.specs.Canonical.{separator, written, words_text, tree_text, canonical}
use Rattle.c_tree.specs.Reread.{IsFormed, unit_words, word_spellings, CanonicalIsRead}

key_token : (keyword : Keyword) → IsToken kind.Keyword (keyword_bytes keyword)
unfolding keyword_bytes kind_of class_of is_space is_letter is_digit is_name_byte is_keyword
key_token k.Void = refl
key_token k.Char = refl
key_token k.Short = refl
key_token k.Int = refl
key_token k.Long = refl
key_token k.Signed = refl
key_token k.Unsigned = refl
key_token k.Struct = refl
key_token k.Union = refl
key_token k.Enum = refl
key_token k.Static = refl
key_token k.Extern = refl
key_token k.Typedef = refl
key_token k.Const = refl
key_token k.DelayFrees = refl
key_token k.If = refl
key_token k.Else = refl
key_token k.While = refl
key_token k.Do = refl
key_token k.For = refl
key_token k.Switch = refl
key_token k.Case = refl
key_token k.Default = refl
key_token k.Break = refl
key_token k.Continue = refl
key_token k.Return = refl
key_token k.Sizeof = refl

mark_token : (sign : Sign) → IsToken kind.Sign (sign_bytes sign)
unfolding sign_bytes kind_of class_of is_space is_letter is_digit is_mark is_double_sign is_triple_sign
mark_token s.LeftBracket = refl
mark_token s.RightBracket = refl
mark_token s.LeftParen = refl
mark_token s.RightParen = refl
mark_token s.LeftBrace = refl
mark_token s.RightBrace = refl
mark_token s.Dot = refl
mark_token s.Arrow = refl
mark_token s.PlusPlus = refl
mark_token s.MinusMinus = refl
mark_token s.Ampersand = refl
mark_token s.Star = refl
mark_token s.Plus = refl
mark_token s.Minus = refl
mark_token s.Tilde = refl
mark_token s.Not = refl
mark_token s.Slash = refl
mark_token s.Percent = refl
mark_token s.ShiftLeft = refl
mark_token s.ShiftRight = refl
mark_token s.Less = refl
mark_token s.Greater = refl
mark_token s.LessEqual = refl
mark_token s.GreaterEqual = refl
mark_token s.EqualEqual = refl
mark_token s.NotEqual = refl
mark_token s.Caret = refl
mark_token s.Bar = refl
mark_token s.AndAnd = refl
mark_token s.OrOr = refl
mark_token s.Question = refl
mark_token s.Colon = refl
mark_token s.Semicolon = refl
mark_token s.Equal = refl
mark_token s.StarEqual = refl
mark_token s.SlashEqual = refl
mark_token s.PercentEqual = refl
mark_token s.PlusEqual = refl
mark_token s.MinusEqual = refl
mark_token s.ShiftLeftEqual = refl
mark_token s.ShiftRightEqual = refl
mark_token s.AmpersandEqual = refl
mark_token s.CaretEqual = refl
mark_token s.BarEqual = refl
mark_token s.Comma = refl

mark_separated : (sign : Sign) → is_separator (separator (Mark sign)) ≡ true
mark_separated s.LeftBracket = refl
mark_separated s.RightBracket = refl
mark_separated s.LeftParen = refl
mark_separated s.RightParen = refl
mark_separated s.LeftBrace = refl
mark_separated s.RightBrace = refl
mark_separated s.Dot = refl
mark_separated s.Arrow = refl
mark_separated s.PlusPlus = refl
mark_separated s.MinusMinus = refl
mark_separated s.Ampersand = refl
mark_separated s.Star = refl
mark_separated s.Plus = refl
mark_separated s.Minus = refl
mark_separated s.Tilde = refl
mark_separated s.Not = refl
mark_separated s.Slash = refl
mark_separated s.Percent = refl
mark_separated s.ShiftLeft = refl
mark_separated s.ShiftRight = refl
mark_separated s.Less = refl
mark_separated s.Greater = refl
mark_separated s.LessEqual = refl
mark_separated s.GreaterEqual = refl
mark_separated s.EqualEqual = refl
mark_separated s.NotEqual = refl
mark_separated s.Caret = refl
mark_separated s.Bar = refl
mark_separated s.AndAnd = refl
mark_separated s.OrOr = refl
mark_separated s.Question = refl
mark_separated s.Colon = refl
mark_separated s.Semicolon = refl
mark_separated s.Equal = refl
mark_separated s.StarEqual = refl
mark_separated s.SlashEqual = refl
mark_separated s.PercentEqual = refl
mark_separated s.PlusEqual = refl
mark_separated s.MinusEqual = refl
mark_separated s.ShiftLeftEqual = refl
mark_separated s.ShiftRightEqual = refl
mark_separated s.AmpersandEqual = refl
mark_separated s.CaretEqual = refl
mark_separated s.BarEqual = refl
mark_separated s.Comma = refl

separated : (word : Word) → is_separator (separator word) ≡ true
separated (Key keyword) = refl
separated (Mark sign) = mark_separated sign
separated (Name bytes) = refl
separated (Int bytes) = refl
separated (Char bytes) = refl
separated (Str bytes) = refl
separated (Other kind bytes) = refl

token : (word : Word) → IsFormed word → IsToken (word_kind word) (word_bytes word)
token (Key keyword) h = key_token keyword
token (Mark sign) h = mark_token sign
token (Name bytes) h = h
token (Int bytes) h = h
token (Char bytes) h = h
token (Str bytes) h = h
token (Other kind bytes) h = h

all_written : (ws : List Word) → All IsFormed ws → All IsWritten (map written ws)
all_written [] h = All-nil IsWritten
all_written (w ∷ ws) h =
    All-cons IsWritten (written w) (map written ws)
    (record { token = token w (All-head IsFormed w ws h); separated = separated w })
    (all_written ws (All-tail IsFormed w ws h))

spellings : (ws : List Word) → written_spellings (map written ws) ≡ word_spellings ws
spellings [] = refl
spellings (w ∷ ws) = ap (λ xs. (word_kind w, word_bytes w) ∷ xs) (spellings ws)

pub canonical_is_read : WrittenIsRead → CanonicalIsRead
unfolding tree_text words_text
canonical_is_read again externals h =
    let x = again (map written (unit_words externals)) (all_written (unit_words externals) h) in
    (x.0, x.1, x.2 ∙ spellings (unit_words externals))
