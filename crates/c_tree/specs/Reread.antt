-- The canonical spelling of a tree has the words of the tree for its tokens.
use Rattle.std.specs.Prelude.{◌≡◌, ⊤, ℕ, List, map, All}
use Rattle.c_lexer.specs.Pieces.{IsToken}
use Rattle.c_lexer.specs.Tokens.{HasTokens}
use Rattle.c_lexer.specs.Written.{token_spellings}
use Rattle.c_lexer.specs.declared.token.Token.{Token}
use Rattle.c_lexer.specs.declared.token.TokenKind.{TokenKind}
use Rattle.c_lexer.specs.declared.token.TokenKind.TheVariants as kind
use Rattle.c_tree.specs.Words.{Word, Key, Mark, Name, Int, Char, Str, Other, word_kind, word_bytes}
use Rattle.c_tree.specs.Forms as f
use Rattle.c_tree.specs.Tree.{Trees, Node}
use Rattle.c_tree.specs.Spelling.{spell, words}
use Rattle.c_tree.specs.Canonical.{canonical}

-- a name, a constant or a literal has the form of its kind of token
abbrev pub IsFormed : Word → Type 0
IsFormed (Key keyword) = ⊤
IsFormed (Mark sign) = ⊤
IsFormed (Name bytes) = IsToken kind.Name bytes
IsFormed (Int bytes) = IsToken kind.Int bytes
IsFormed (Char bytes) = IsToken kind.Char bytes
IsFormed (Str bytes) = IsToken kind.Str bytes
IsFormed (Other kind bytes) = IsToken kind bytes

-- the words of external declarations
abbrev pub unit_words : Trees → List Word
unit_words externals = words (spell (Node f.Unit externals))

-- the kinds and spellings of words
abbrev pub word_spellings : List Word → List (TokenKind × List ℕ)
word_spellings ws = map (λ w. (word_kind w, word_bytes w)) ws

-- the tokens of the canonical spelling are the words
abbrev pub CanonicalIsRead : Type 0
CanonicalIsRead =
    (externals : Trees) → All IsFormed (unit_words externals) → (tokens : List Token) × HasTokens (canonical externals) tokens
    × (token_spellings tokens ≡ word_spellings (unit_words externals))
