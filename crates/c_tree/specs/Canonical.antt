-- The canonical spelling of a tree: its words in order, each with one byte behind it.
use Rattle.std.specs.Prelude.{ℕ, zero, suc, Bool, true, false, List, [], ◌∷◌, ◌++◌, map}
use Rattle.c_lexer.specs.Written.{Written, written_text}
use Rattle.c_tree.specs.declared.word.Keyword.TheVariants as k
use Rattle.c_tree.specs.declared.word.Sign.TheVariants as s
use Rattle.c_tree.specs.Words.{Word, Key, Mark, word_kind, word_bytes}
use Rattle.c_tree.specs.Forms as f
use Rattle.c_tree.specs.Tree.{Tree, Trees, Node}
use Rattle.c_tree.specs.Spelling.{spell, words}

-- the byte behind a word: an end of line behind `;`, `{` and `}`, and a space behind every other
abbrev pub separator : Word → ℕ
separator (Mark s.Semicolon) = 10
separator (Mark s.LeftBrace) = 10
separator (Mark s.RightBrace) = 10
separator _ = 32

-- a word as it is written
abbrev pub written : Word → Written
written word = record { kind = word_kind word; bytes = word_bytes word; separator = separator word }

-- the text of one word
abbrev pub word_text : Word → List ℕ
word_text word = word_bytes word ++ separator word ∷ []

-- the text of words, one behind another
unfoldable pub words_text : List Word → List ℕ
words_text list = written_text (map written list)

-- the text of a tree
unfoldable pub tree_text : Tree → List ℕ
tree_text tree = words_text (words (spell tree))

-- the text of external declarations
abbrev pub canonical : Trees → List ℕ
canonical externals = tree_text (Node f.Unit externals)

-- a text with so many `const` behind it
abbrev pub with_consts : ℕ → List ℕ → List ℕ
with_consts zero out = out
with_consts (suc n) out = with_consts n out ++ word_text (Key k.Const)

-- a text with a `}` behind it, behind a comma or not
abbrev pub with_close : Bool → List ℕ → List ℕ
with_close true out = (out ++ word_text (Mark s.Comma)) ++ word_text (Mark s.RightBrace)
with_close false out = out ++ word_text (Mark s.RightBrace)
