-- The laws of reading: what is read is a tree of the grammar, and the tree of a text's tokens is read.
use Rattle.std.specs.Prelude.{◌≡◌, ◌≤◌, ◌<◌, ℕ, if◌then◌else◌, List, ◌++◌, Some, Result, Ok, Err, All}
use Rattle.c_tree.specs.Places.{Place}
use Rattle.c_tree.specs.Forms as f
use Rattle.c_tree.specs.Tree.{Tree, Trees, Leaf, At, Node, none, ◌▹◌}
use Rattle.c_tree.specs.Spelling.{spell, Spells, IsWord}
use Rattle.c_tree.specs.Scopes.{Scope, is_scope, after, first_scope}
use Rattle.c_tree.specs.Allowed.{Takes, Allowed, AreExternals}
use Rattle.c_tree.specs.Depth.{depth, most}
use Rattle.c_tree.specs.Canonical.{canonical}
use Rattle.c_tree.specs.Reread.{IsFormed, unit_words, word_spellings}
use Rattle.c_lexer.specs.Tokens.{HasTokens}
use Rattle.c_lexer.specs.Written.{token_spellings}
use Rattle.c_lexer.specs.declared.token.Token.{Token}
use Rattle.grammar_reading.specs.Known.{word_of}
use Rattle.grammar_reading.specs.State.{State, left_at, line_at}
use Rattle.c_tree.specs.HasTree.{HasTree, GoesWrong}
use Rattle.grammar_reading.specs.Rooms.{read, read_unit, Whole, Stops}

-- a token is the word that reading takes it for
abbrev pub EachIsItsWord : Type 0
EachIsItsWord = (token : Token) → IsWord (word_of token) token

-- the scope behind a tree of a place
abbrev pub behind : Place → Tree → Scope → Scope
behind place tree scope = if is_scope place then scope else after tree scope

-- a tree that was read: it may stand at the place and is allowed there; it is spelled by the tokens that were taken; it
-- is at most so deep; and the scope is the one behind it
pub record IsRead (room : ℕ) (place : Place) (state : State) (tree : Tree) (rest : State) : Type 0 where
  pub stands : Takes place tree
  pub allowed : Allowed tree state.scope
  pub spelled : Spells (spell tree) state.words rest.words
  pub deep : depth tree ≤ room
  pub scope : rest.scope ≡ behind place tree state.scope

-- what is read at a place is a tree that may stand there
abbrev pub TreesAreRead : Type 0
TreesAreRead =
    (room : ℕ) (place : Place) (state rest : State) (tree : Tree) → read room place state ≡ Some (tree, rest) →
    IsRead room place state tree rest

-- a text that is read whole has the tree that was read
abbrev pub WholeTextsAreRead : Type 0
WholeTextsAreRead = (tokens : List Token) (externals : Trees) → read_unit tokens ≡ Whole externals → HasTree tokens externals

-- where reading a text stops, the tokens in front have the tree that was read
abbrev pub FrontsAreRead : Type 0
FrontsAreRead =
    (tokens : List Token) (externals : Trees) (state : State) → read_unit tokens ≡ Stops externals state →
    (front : List Token) × (tokens ≡ front ++ state.words) × HasTree front externals

-- the tree of a text's tokens is the one that is read, so they have at most one
abbrev pub TreesOfTextsAreRead : Type 0
TreesOfTextsAreRead = (tokens : List Token) (externals : Trees) → HasTree tokens externals → read_unit tokens ≡ Whole externals

-- where reading a text stops there is a token, and the tokens go wrong at its line
abbrev pub StopsWhereWrong : Type 0
StopsWhereWrong =
    (tokens : List Token) (externals : Trees) (state : State) → read_unit tokens ≡ Stops externals state →
    (0 < left_at state) × GoesWrong tokens (line_at state)

-- what tokens have: a tree, or a line at which they go wrong
abbrev pub HasAnswer : List Token → Result Trees ℕ → Type 0
HasAnswer tokens (Ok externals) = HasTree tokens externals
HasAnswer tokens (Err line) = GoesWrong tokens line

-- each list of tokens has exactly one of all trees and lines
abbrev pub OneAnswer : Type 0
OneAnswer =
    (tokens : List Token) → (answer : Result Trees ℕ) × HasAnswer tokens answer
    × ((other : Result Trees ℕ) → HasAnswer tokens other → other ≡ answer)

unfoldable mutual
  -- a tree without its lines
  pub lineless : Tree → Tree
  lineless (Leaf word) = Leaf word
  lineless (At line) = At 0
  lineless (Node form parts) = Node form (lineless_all parts)

  pub lineless_all : Trees → Trees
  lineless_all none = none
  lineless_all (tree ▹ rest) = lineless tree ▹ lineless_all rest

-- tokens that are the words of an allowed tree are read as that tree, but for lines
abbrev pub WordsAreRead : Type 0
WordsAreRead =
    (externals : Trees) (tokens : List Token) → AreExternals externals first_scope → depth (Node f.Unit externals) ≤ most →
    token_spellings tokens ≡ word_spellings (unit_words externals) →
    (again : Trees) × (read_unit tokens ≡ Whole again) × (lineless_all again ≡ lineless_all externals)

-- the canonical text of an allowed tree, where names, constants and literals have the forms of tokens, has tokens that are
-- read as that tree, but for lines
abbrev pub CanonicalTreesAreRead : Type 0
CanonicalTreesAreRead =
    (externals : Trees) → AreExternals externals first_scope → depth (Node f.Unit externals) ≤ most →
    All IsFormed (unit_words externals) → (tokens : List Token) × HasTokens (canonical externals) tokens
    × (again : Trees) × (read_unit tokens ≡ Whole again) × (lineless_all again ≡ lineless_all externals)
