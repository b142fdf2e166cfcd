-- What the grammar says of the trees of tokens, as far as laws of cores stand on it.
use Rattle.std.specs.Prelude.{◌<◌, ◌≤◌, ◌^◌, IsSome}
use Rattle.c_lexer.specs.Numbers.{number_value}
use Rattle.c_tree.specs.Words as w
use Rattle.c_tree.specs.Words.{Word}
use Rattle.c_tree.specs.Forms.{Form}
use Rattle.c_tree.specs.Forms as f
use Rattle.c_tree.specs.Tree.{Tree, Trees, Leaf, At, Node, none, ◌▹◌}
use Rattle.c_tree.specs.Scopes.{name_of}
use Rattle.core_soundness.specs.Spoken.{IsDefinition}

-- an integer constant has at most 64 bits
abbrev pub IsHeld : Word → Type 0
IsHeld (w.Int bytes) = number_value bytes < 2 ^ 64
IsHeld word = Unit {0}

-- members stand in the braces of a tag, each declares a name, and initializers stand in braces
unfoldable pub HasParts : Form → Trees → Type 0
HasParts f.Members none = ⊥
HasParts f.MemberNames none = ⊥
HasParts f.MemberNames (declarator ▹ rest) = IsSome (name_of declarator)
HasParts f.Inits none = ⊥
HasParts other parts = Unit {0}

-- a tree with lines, such constants, members and initializers
unfoldable mutual
  pub Written : Tree → Type 0
  Written (Leaf word) = IsHeld word
  Written (At line) = 1 ≤ line
  Written (Node form parts) = HasParts form parts × AllWritten parts

  pub AllWritten : Trees → Type 0
  AllWritten none = Unit {0}
  AllWritten (tree ▹ rest) = Written tree × AllWritten rest

-- each of some trees is such a one
abbrev pub Each : (Tree → Type 0) → Trees → Type 0
Each P none = Unit {0}
Each P (tree ▹ rest) = P tree × Each P rest

-- external declarations, where each definition of a function has a parameter list
abbrev pub AreWritten : Trees → Type 0
AreWritten unit = Each (λ tree. Written tree × IsDefinition tree) unit
