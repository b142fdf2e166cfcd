-- What an answer says of its steps, spellings, and which word a token is.
use Rattle.std.proofs.Common.{List, [], ◌∷◌, ◌++◌, refl, sym, subst, ◌≡◌, Bool, true, false, inl, inr, ◌⊎◌, Option, Some, None, ℕ, zero, suc, ap, ◌∙◌}
use Rattle.std.specs.Prelude.{if◌then◌else◌, bytes_eq, nat_eq, ⊤}
use Rattle.std.proofs.lemmas.Bool.{eqb-true, false≢true}
use Rattle.std.proofs.lemmas.Slice.Eq.{bytes_eq-Decides}
use Rattle.c_lexer.specs.declared.token.Token.{Token}
use Rattle.c_lexer.specs.declared.token.TokenKind.{TokenKind}
use Rattle.c_lexer.specs.declared.token.TokenKind.TheVariants as kind
use Rattle.c_tree.specs.Spelling.{Piece, Said, Line, Spells, IsWord, words}
use Rattle.c_tree.specs.declared.word.Keyword.{Keyword}
use Rattle.c_tree.specs.declared.word.Sign.{Sign}
use Rattle.c_tree.specs.Words.{Word, Key, Mark, word_kind, word_bytes, keyword_bytes, sign_bytes, Name, Int, Char, Str, Other}
use Rattle.c_tree.specs.declared.word.Keyword.TheVariants as k
use Rattle.c_tree.specs.declared.word.Sign.TheVariants as s
use Rattle.grammar_reading.specs.ReadingEquations.{none_some, some_same}
use Rattle.grammar_reading.specs.Known.{keywords, signs, keyword_among, sign_among, word_by, word_of}
use Rattle.grammar_reading.specs.State.{State, first_word, first_kind, first_line, behind_first, kind_of_word, keyword_number, sign_number, kind_is_key, kind_is_mark, at_word, past, word_at, skip, first_bytes}
use Rattle.grammar_reading.specs.Laws.{behind}
use Rattle.grammar_reading.specs.declared.kind.Kind.{Kind}
use Rattle.grammar_reading.specs.declared.kind.Kind.TheVariants as kinds

-- two spellings in turn
pub spells_both : (a b : List Piece) (tokens middle rest : List Token) → Spells a tokens middle → Spells b middle rest →
    Spells (a ++ b) tokens rest
unfolding Spells
spells_both [] b tokens middle rest ha hb = subst (λ ts. Spells b ts rest) (sym ha) hb
spells_both (Said word ∷ a) b [] middle rest ha hb = absurd ha
spells_both (Said word ∷ a) b (token ∷ tokens) middle rest ha hb = (ha.0, spells_both a b tokens middle rest ha.1 hb)
spells_both (Line line ∷ a) b [] middle rest ha hb = absurd ha
spells_both (Line line ∷ a) b (token ∷ tokens) middle rest ha hb =
    (ha.0, spells_both a b (token ∷ tokens) middle rest ha.1 hb)

-- what is left between two spellings in turn
pub spells_split : (a b : List Piece) (tokens rest : List Token) → Spells (a ++ b) tokens rest →
    (middle : List Token) × Spells a tokens middle × Spells b middle rest
unfolding Spells
spells_split [] b tokens rest h = (tokens, refl, h)
spells_split (Said word ∷ a) b [] rest h = absurd h
spells_split (Said word ∷ a) b (token ∷ tokens) rest h =
    let x = spells_split a b tokens rest h.1 in (x.0, (h.0, x.1), x.2)
spells_split (Line line ∷ a) b [] rest h = absurd h
spells_split (Line line ∷ a) b (token ∷ tokens) rest h =
    let x = spells_split a b (token ∷ tokens) rest h.1 in (x.0, (h.0, x.1), x.2)

-- What an answer of some steps says of each.

-- a test that must hold
pub if_some : {A : Type 0} (b : Bool) (r : Option A) (x : A) → (if b then r else None) ≡ Some x → (b ≡ true) × (r ≡ Some x)
if_some true r x h = (refl, h)
if_some false r x h = none_some h

-- one of two readings
pub either : {A : Type 0} (b : Bool) (r s : Option A) (x : A) → (if b then r else s) ≡ Some x → ((b ≡ true) × (r ≡ Some x)) ⊎ ((b ≡ false) × (s ≡ Some x))
either true r s x h = inl (refl, h)
either false r s x h = inr (refl, h)

-- Which word a token is.

-- a word is one of a kind with a spelling
abbrev Is : TokenKind → List ℕ → Word → Type 0
Is kind bytes word = (kind ≡ word_kind word) × (bytes ≡ word_bytes word)

key_among : (list : List Keyword) (bytes : List ℕ) → Is kind.Keyword bytes (keyword_among list bytes)
key_among [] bytes = (refl, refl)
key_among (keyword ∷ rest) bytes = by (key_among rest bytes) (bytes_eq (keyword_bytes keyword) bytes) refl where
  by : Is kind.Keyword bytes (keyword_among rest bytes) → (b : Bool) → bytes_eq (keyword_bytes keyword) bytes ≡ b → Is kind.Keyword bytes (if b then Key keyword else keyword_among rest bytes)
  by behind true e = (refl, sym ((bytes_eq-Decides (keyword_bytes keyword) bytes).0 e))
  by behind false e = behind

mark_among : (list : List Sign) (bytes : List ℕ) → Is kind.Sign bytes (sign_among list bytes)
mark_among [] bytes = (refl, refl)
mark_among (sign ∷ rest) bytes = by (mark_among rest bytes) (bytes_eq (sign_bytes sign) bytes) refl where
  by : Is kind.Sign bytes (sign_among rest bytes) → (b : Bool) → bytes_eq (sign_bytes sign) bytes ≡ b → Is kind.Sign bytes (if b then Mark sign else sign_among rest bytes)
  by behind true e = (refl, sym ((bytes_eq-Decides (sign_bytes sign) bytes).0 e))
  by behind false e = behind

word_by_is : (kind : TokenKind) (bytes : List ℕ) → Is kind bytes (word_by kind bytes)
unfolding word_by
word_by_is kind.Keyword bytes = key_among keywords bytes
word_by_is kind.Sign bytes = mark_among signs bytes
word_by_is _ bytes = (refl, refl)

pub word_of_is : (token : Token) → IsWord (word_of token) token
word_of_is token = word_by_is token.kind token.bytes

-- a number tells which keyword, which sign
keyword_at : List Keyword → ℕ → Option Keyword
keyword_at [] n = None
keyword_at (keyword ∷ rest) zero = Some keyword
keyword_at (keyword ∷ rest) (suc n) = keyword_at rest n

sign_at : List Sign → ℕ → Option Sign
sign_at [] n = None
sign_at (sign ∷ rest) zero = Some sign
sign_at (sign ∷ rest) (suc n) = sign_at rest n

keyword_back : (keyword : Keyword) → keyword_at keywords (keyword_number keyword) ≡ Some keyword
unfolding keyword_at keyword_number
keyword_back k.Void = refl
keyword_back _ = refl

sign_back : (sign : Sign) → sign_at signs (sign_number sign) ≡ Some sign
unfolding sign_at sign_number
sign_back s.LeftBracket = refl
sign_back _ = refl

pub same_keyword : (a b : Keyword) → nat_eq (keyword_number a) (keyword_number b) ≡ true → a ≡ b
same_keyword a b h =
    some_same (sym (keyword_back a) ∙ ap (keyword_at keywords) (eqb-true (keyword_number a) (keyword_number b) h) ∙ keyword_back b)

pub same_sign : (a b : Sign) → nat_eq (sign_number a) (sign_number b) ≡ true → a ≡ b
same_sign a b h =
    some_same (sym (sign_back a) ∙ ap (sign_at signs) (eqb-true (sign_number a) (sign_number b) h) ∙ sign_back b)

pub mark_is : (sign : Sign) (kind : Kind) → kind_is_mark sign kind ≡ true → kind ≡ kinds.Mark sign
mark_is sign (kinds.Mark other) h = ap kinds.Mark (same_sign other sign h)
mark_is sign _ h = absurd (false≢true h)

key_word : (keyword : Keyword) (word : Word) → kind_is_key keyword (kind_of_word word) ≡ true → word ≡ Key keyword
key_word keyword (Key other) h = ap Key (same_keyword other keyword h)
key_word keyword _ h = absurd (false≢true h)

mark_word : (sign : Sign) (word : Word) → kind_is_mark sign (kind_of_word word) ≡ true → word ≡ Mark sign
mark_word sign (Mark other) h = ap Mark (same_sign other sign h)
mark_word sign _ h = absurd (false≢true h)

-- there is a token
abbrev pub Has : List Token → Type 0
Has [] = ⊥
Has (token ∷ tokens) = ⊤

-- the first token is this word
pub takes_first : (words : List Token) → Has words → Spells (Said (first_word words) ∷ []) words (behind_first words)
unfolding Spells
takes_first [] h = absurd h
takes_first (token ∷ tokens) h = (word_of_is token, refl)

pub takes_line : (words : List Token) → Has words → Spells (Line (first_line words) ∷ []) words words
unfolding Spells
takes_line [] h = absurd h
takes_line (token ∷ tokens) h = (refl, refl)

-- where a word of a form stands, it is the first one
pub at_key_first : (keyword : Keyword) (words : List Token) → kind_is_key keyword (first_kind words) ≡ true → Has words × (first_word words ≡ Key keyword)
at_key_first keyword [] h = absurd (false≢true h)
at_key_first keyword (token ∷ tokens) h = (tt, key_word keyword (word_of token) h)

pub at_mark_first : (sign : Sign) (words : List Token) → kind_is_mark sign (first_kind words) ≡ true → Has words × (first_word words ≡ Mark sign)
at_mark_first sign [] h = absurd (false≢true h)
at_mark_first sign (token ∷ tokens) h = (tt, mark_word sign (word_of token) h)

pub at_word_first : (word : Word) (state : State) → at_word word state ≡ true → Has state.words × (word_at state ≡ word)
at_word_first (Key keyword) state h = at_key_first keyword state.words h
at_word_first (Mark sign) state h = at_mark_first sign state.words h
at_word_first _ state h = absurd (false≢true h)

pub past_some : (word : Word) (state next : State) → past word state ≡ Some next → Has state.words × (word_at state ≡ word) × (skip state ≡ next)
past_some word state next h =
    let a = if_some (at_word word state) (Some (skip state)) next h in
    let b = at_word_first word state a.0 in
    (b.0, b.1, some_same a.1)

-- The kind of the next word tells the word.

-- what a kind says of the first word
abbrev pub Tells : Kind → List Token → Type 0
Tells (kinds.Key keyword) words = Has words × (first_word words ≡ Key keyword)
Tells (kinds.Mark sign) words = Has words × (first_word words ≡ Mark sign)
Tells kinds.Name words = Has words × (first_word words ≡ Name (first_bytes words))
Tells kinds.Int words = Has words × (first_word words ≡ Int (first_bytes words))
Tells kinds.Char words = Has words × (first_word words ≡ Char (first_bytes words))
Tells kinds.Str words = Has words × (first_word words ≡ Str (first_bytes words))
Tells kinds.Other words = ⊤
Tells kinds.End words = ⊤

tells_word : (token : Token) (tokens : List Token) (word : Word) → word_of token ≡ word → Tells (kind_of_word word) (token ∷ tokens)
tells_word token tokens (Key keyword) e = (tt, e)
tells_word token tokens (Mark sign) e = (tt, e)
tells_word token tokens (Name bytes) e = (tt, e ∙ ap Name (sym ((word_of_is token).1 ∙ ap word_bytes e)))
tells_word token tokens (Int bytes) e = (tt, e ∙ ap Int (sym ((word_of_is token).1 ∙ ap word_bytes e)))
tells_word token tokens (Char bytes) e = (tt, e ∙ ap Char (sym ((word_of_is token).1 ∙ ap word_bytes e)))
tells_word token tokens (Str bytes) e = (tt, e ∙ ap Str (sym ((word_of_is token).1 ∙ ap word_bytes e)))
tells_word token tokens (Other kind bytes) e = tt

tells_first : (words : List Token) → Tells (first_kind words) words
tells_first [] = tt
tells_first (token ∷ tokens) = tells_word token tokens (word_of token) refl

pub tells : (kind : Kind) (words : List Token) → first_kind words ≡ kind → Tells kind words
tells kind words e = subst (λ k. Tells k words) e (tells_first words)

-- A token that is a word of the grammar is taken for that word.

key_back : (keyword : Keyword) → keyword_among keywords (keyword_bytes keyword) ≡ Key keyword
unfolding keyword_bytes
key_back k.Void = refl
key_back _ = refl

mark_back : (sign : Sign) → sign_among signs (sign_bytes sign) ≡ Mark sign
unfolding sign_bytes
mark_back s.LeftBracket = refl
mark_back _ = refl

-- a word that the grammar names
abbrev pub IsNamed : Word → Type 0
IsNamed (Other kind bytes) = ⊥
IsNamed _ = ⊤

by_back : (word : Word) → IsNamed word → word_by (word_kind word) (word_bytes word) ≡ word
unfolding word_by
by_back (Key keyword) h = key_back keyword
by_back (Mark sign) h = mark_back sign
by_back (Other kind bytes) h = absurd h
by_back _ h = refl

pub word_back : (word : Word) (token : Token) → IsNamed word → IsWord word token → word_of token ≡ word
word_back word token n h = ap (λ kind. word_by kind token.bytes) h.0 ∙ ap (word_by (word_kind word)) h.1 ∙ by_back word n

-- the words of a spelling are those of its tokens
unfoldable pub SpellsWords : List Word → List Token → List Token → Type 0
SpellsWords [] tokens rest = tokens ≡ rest
SpellsWords (word ∷ ws) [] rest = ⊥
SpellsWords (word ∷ ws) (token ∷ tokens) rest = IsWord word token × SpellsWords ws tokens rest

pub spells_words : (pieces : List Piece) (tokens rest : List Token) → Spells pieces tokens rest → SpellsWords (words pieces) tokens rest
unfolding Spells SpellsWords
spells_words [] tokens rest h = h
spells_words (Said word ∷ pieces) [] rest h = absurd h
spells_words (Said word ∷ pieces) (token ∷ tokens) rest h = (h.0, spells_words pieces tokens rest h.1)
spells_words (Line line ∷ pieces) [] rest h = absurd h
spells_words (Line line ∷ pieces) (token ∷ tokens) rest h = spells_words pieces (token ∷ tokens) rest h.1

pub words_both : (a b : List Piece) → words (a ++ b) ≡ words a ++ words b
words_both [] b = refl
words_both (Said word ∷ a) b = ap (λ l. word ∷ l) (words_both a b)
words_both (Line line ∷ a) b = words_both a b
