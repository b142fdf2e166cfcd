-- Syntax trees.
use Rattle.std.specs.Prelude.{ℕ, zero, suc, List, [], ◌∷◌}
use Rattle.c_tree.specs.Words.{Word}
use Rattle.c_tree.specs.Forms.{Form}

infixr 6 ◌▹◌
mutual
  -- a word, the line at which the next word stands, or a node of a form with its parts in the order of the grammar. The
  -- words that the form fixes are no parts.
  pub data Tree : Type 0 where
    Leaf : (word : Word) → Tree
    At : (line : ℕ) → Tree
    Node : (form : Form) (parts : Trees) → Tree

  pub data Trees : Type 0 where
    none : Trees
    ◌▹◌ : (tree : Tree) (rest : Trees) → Trees

-- how many parts there are
abbrev pub count : Trees → ℕ
count none = zero
count (tree ▹ rest) = suc (count rest)
