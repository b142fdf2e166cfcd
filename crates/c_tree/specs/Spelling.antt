-- The words of a tree in order, with the lines that it tells.
use Rattle.std.specs.Prelude.{◌≡◌, ⊤, ℕ, List, [], ◌∷◌, ◌++◌}
use Rattle.c_lexer.specs.declared.token.Token.{Token}
use Rattle.c_tree.specs.Words.{Word, word_kind, word_bytes}
use Rattle.c_tree.specs.Forms.{Form}
use Rattle.c_tree.specs.Tree.{Tree, Trees, Leaf, At, Node, none, ◌▹◌, count}
use Rattle.c_tree.specs.Grammar.{Item, Says, Here, Part, shape}

-- a word of a spelling, or the line of the word behind
pub data Piece : Type 0 where
  Said : (word : Word) → Piece
  Line : (line : ℕ) → Piece

-- the words of a form with the spellings of its parts in their places
abbrev pub filled : List Item → List (List Piece) → List Piece
filled [] parts = []
filled (Says word ∷ items) parts = Said word ∷ filled items parts
filled (Here ∷ items) [] = []
filled (Here ∷ items) (part ∷ parts) = part ++ filled items parts
filled (Part place ∷ items) [] = []
filled (Part place ∷ items) (part ∷ parts) = part ++ filled items parts

unfoldable mutual
  -- the spelling of a tree
  pub spell : Tree → List Piece
  spell (Leaf word) = Said word ∷ []
  spell (At line) = Line line ∷ []
  spell (Node form parts) = filled (shape form (count parts)) (spell_all parts)

  pub spell_all : Trees → List (List Piece)
  spell_all none = []
  spell_all (tree ▹ rest) = spell tree ∷ spell_all rest

-- a token is this word: it has its kind and its spelling
abbrev pub IsWord : Word → Token → Type 0
IsWord word token = (token.kind ≡ word_kind word) × (token.bytes ≡ word_bytes word)

-- tokens begin with this spelling, and this is the rest: they are its words in order, and each line that it tells is that
-- of the token behind
unfoldable pub Spells : List Piece → List Token → List Token → Type 0
Spells [] tokens rest = tokens ≡ rest
Spells (Said word ∷ pieces) [] rest = ⊥
Spells (Said word ∷ pieces) (token ∷ tokens) rest = IsWord word token × Spells pieces tokens rest
Spells (Line line ∷ pieces) [] rest = ⊥
Spells (Line line ∷ pieces) (token ∷ tokens) rest = (token.line ≡ line) × Spells pieces (token ∷ tokens) rest

-- the words alone
abbrev pub words : List Piece → List Word
words [] = []
words (Said word ∷ pieces) = word ∷ words pieces
words (Line line ∷ pieces) = words pieces
