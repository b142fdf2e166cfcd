-- The tree that tokens have, or the line at which it goes wrong (C99 6.9).
use Rattle.std.specs.Prelude.{◌≡◌, ◌≤◌, ℕ, List, [], ◌∷◌, ◌++◌, length}
use Rattle.c_lexer.specs.declared.token.Token.{Token}
use Rattle.c_tree.specs.Forms as f
use Rattle.c_tree.specs.Tree.{Trees, Node}
use Rattle.c_tree.specs.Spelling.{spell, Spells}
use Rattle.c_tree.specs.Depth.{depth, most}
use Rattle.c_tree.specs.Scopes.{first_scope}
use Rattle.c_tree.specs.Allowed.{AreExternals}

-- the tokens have the tree of these external declarations: they are its words, with the lines that it tells; it is
-- allowed; and it is not too deep
pub record HasTree (tokens : List Token) (externals : Trees) : Type 0 where
  pub spelled : Spells (spell (Node f.Unit externals)) tokens []
  pub allowed : AreExternals externals first_scope
  pub flat : depth (Node f.Unit externals) ≤ most

-- the longest front of the tokens that has a tree is not all of them, and this is the line of the first token behind
pub record GoesWrong (tokens : List Token) (line : ℕ) : Type 0 where
  pub front : List Token
  pub wrong : Token
  pub rest : List Token
  pub externals : Trees
  pub split : tokens ≡ front ++ wrong ∷ rest
  pub tree : HasTree front externals
  pub longest : (longer behind : List Token) (other : Trees) → tokens ≡ longer ++ behind → HasTree longer other →
      length longer ≤ length front
  pub here : wrong.line ≡ line
