-- The words that tokens are, by their kinds. Equations, proved from the words of reading and its states.
use Rattle.std.proofs.Common.{◌≡◌, ℕ, List, [], ◌∷◌, Bool, true, false, if◌then◌else◌, bytes_eq, refl, ap, ◌∙◌, sym}
use Rattle.std.proofs.lemmas.Bool.{false≢true}
use Rattle.c_lexer.specs.declared.token.Token.{Token}
use Rattle.c_lexer.specs.declared.token.TokenKind.{TokenKind}
use Rattle.c_lexer.specs.declared.token.TokenKind.TheVariants as kind
use Rattle.c_tree.specs.declared.word.Keyword.{Keyword}
use Rattle.c_tree.specs.declared.word.Sign.{Sign}
use Rattle.c_tree.specs.Words.{keyword_bytes, sign_bytes}
use Rattle.c_tree.specs.Words as w
use Rattle.grammar_reading.specs.Known.{keyword_among, sign_among, keywords, signs, word_by}
use Rattle.grammar_reading.specs.State.{State, kind_of_word, first_kind, first_word, first_bytes, kind_at, word_at, bytes_at}
use Rattle.grammar_reading.specs.declared.kind.Kind.{Kind}
use Rattle.grammar_reading.specs.declared.kind.Kind.TheVariants as kinds

-- a kind of tokens that keep their spelling
abbrev is_spelled : Kind → Bool
is_spelled kinds.Name = true
is_spelled kinds.Int = true
is_spelled kinds.Char = true
is_spelled kinds.Str = true
is_spelled _ = false

no_key : (all : List Keyword) (bytes : List ℕ) → is_spelled (kind_of_word (keyword_among all bytes)) ≡ false
no_key [] bytes = refl
no_key (keyword ∷ all) bytes = by (no_key all bytes) (bytes_eq (keyword_bytes keyword) bytes) where
  by : is_spelled (kind_of_word (keyword_among all bytes)) ≡ false → (same : Bool) → is_spelled (kind_of_word (if same then w.Key keyword else keyword_among all bytes)) ≡ false
  by rest true = refl
  by rest false = rest

no_mark : (all : List Sign) (bytes : List ℕ) → is_spelled (kind_of_word (sign_among all bytes)) ≡ false
no_mark [] bytes = refl
no_mark (sign ∷ all) bytes = by (no_mark all bytes) (bytes_eq (sign_bytes sign) bytes) where
  by : is_spelled (kind_of_word (sign_among all bytes)) ≡ false → (same : Bool) → is_spelled (kind_of_word (if same then w.Mark sign else sign_among all bytes)) ≡ false
  by rest true = refl
  by rest false = rest

abbrev is_name : Kind → Bool
is_name kinds.Name = true
is_name _ = false

abbrev is_int : Kind → Bool
is_int kinds.Int = true
is_int _ = false

abbrev is_char : Kind → Bool
is_char kinds.Char = true
is_char _ = false

abbrev is_str : Kind → Bool
is_str kinds.Str = true
is_str _ = false

name_by : (of : TokenKind) (bytes : List ℕ) → kind_of_word (word_by of bytes) ≡ kinds.Name → word_by of bytes ≡ w.Name bytes
unfolding word_by
name_by kind.Keyword bytes h = absurd (false≢true (sym (no_key keywords bytes) ∙ ap is_spelled h))
name_by kind.Sign bytes h = absurd (false≢true (sym (no_mark signs bytes) ∙ ap is_spelled h))
name_by kind.Name bytes h = refl
name_by kind.Int bytes h = absurd (false≢true (ap is_name h))
name_by kind.Char bytes h = absurd (false≢true (ap is_name h))
name_by kind.Str bytes h = absurd (false≢true (ap is_name h))

pub name_words : (tokens : List Token) → first_kind tokens ≡ kinds.Name → first_word tokens ≡ w.Name (first_bytes tokens)
name_words [] h = absurd (false≢true (ap is_name h))
name_words (token ∷ tokens) h = name_by token.kind token.bytes h

pub name_word : (state : State) → kind_at state ≡ kinds.Name → word_at state ≡ w.Name (bytes_at state)
name_word state = name_words state.words

int_by : (of : TokenKind) (bytes : List ℕ) → kind_of_word (word_by of bytes) ≡ kinds.Int → word_by of bytes ≡ w.Int bytes
unfolding word_by
int_by kind.Keyword bytes h = absurd (false≢true (sym (no_key keywords bytes) ∙ ap is_spelled h))
int_by kind.Sign bytes h = absurd (false≢true (sym (no_mark signs bytes) ∙ ap is_spelled h))
int_by kind.Name bytes h = absurd (false≢true (ap is_int h))
int_by kind.Int bytes h = refl
int_by kind.Char bytes h = absurd (false≢true (ap is_int h))
int_by kind.Str bytes h = absurd (false≢true (ap is_int h))

pub int_words : (tokens : List Token) → first_kind tokens ≡ kinds.Int → first_word tokens ≡ w.Int (first_bytes tokens)
int_words [] h = absurd (false≢true (ap is_int h))
int_words (token ∷ tokens) h = int_by token.kind token.bytes h

char_by : (of : TokenKind) (bytes : List ℕ) → kind_of_word (word_by of bytes) ≡ kinds.Char → word_by of bytes ≡ w.Char bytes
unfolding word_by
char_by kind.Keyword bytes h = absurd (false≢true (sym (no_key keywords bytes) ∙ ap is_spelled h))
char_by kind.Sign bytes h = absurd (false≢true (sym (no_mark signs bytes) ∙ ap is_spelled h))
char_by kind.Name bytes h = absurd (false≢true (ap is_char h))
char_by kind.Int bytes h = absurd (false≢true (ap is_char h))
char_by kind.Char bytes h = refl
char_by kind.Str bytes h = absurd (false≢true (ap is_char h))

pub char_words : (tokens : List Token) → first_kind tokens ≡ kinds.Char → first_word tokens ≡ w.Char (first_bytes tokens)
char_words [] h = absurd (false≢true (ap is_char h))
char_words (token ∷ tokens) h = char_by token.kind token.bytes h

str_by : (of : TokenKind) (bytes : List ℕ) → kind_of_word (word_by of bytes) ≡ kinds.Str → word_by of bytes ≡ w.Str bytes
unfolding word_by
str_by kind.Keyword bytes h = absurd (false≢true (sym (no_key keywords bytes) ∙ ap is_spelled h))
str_by kind.Sign bytes h = absurd (false≢true (sym (no_mark signs bytes) ∙ ap is_spelled h))
str_by kind.Name bytes h = absurd (false≢true (ap is_str h))
str_by kind.Int bytes h = absurd (false≢true (ap is_str h))
str_by kind.Char bytes h = absurd (false≢true (ap is_str h))
str_by kind.Str bytes h = refl

pub str_words : (tokens : List Token) → first_kind tokens ≡ kinds.Str → first_word tokens ≡ w.Str (first_bytes tokens)
str_words [] h = absurd (false≢true (ap is_str h))
str_words (token ∷ tokens) h = str_by token.kind token.bytes h

pub str_word : (state : State) → kind_at state ≡ kinds.Str → word_at state ≡ w.Str (bytes_at state)
str_word state = str_words state.words
