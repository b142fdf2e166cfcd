-- What the tree of a text's tokens is, or why there is none (C99 6.9), and what the tree of a condition is (C99 6.10.1).
use Rattle.std.specs.Prelude.{◌≡◌, ⊤, List, Option, Some, None}
use Rattle.c_lexer.specs.declared.token.Token.{Token}
use Rattle.c_tree.specs.Tree.{Tree, Trees}
use Rattle.c_tree.specs.HasTree.{HasTree, GoesWrong}
use Rattle.grammar_reading.specs.Conditions.{IsCondition}
use Rattle.c_parser.specs.declared.error.ParseError.{ParseError}
use Rattle.c_parser.specs.declared.error.ParseError.TheVariants.{Syntax, NoMemory}

-- the tokens have this tree, and no other
pub record IsOnlyTree (tokens : List Token) (externals : Trees) : Type 0 where
  pub tree : HasTree tokens externals
  pub only : (other : Trees) → HasTree tokens other → other ≡ externals

-- the tokens are refused for this cause: they go wrong at a line, or memory was wanting, of which nothing is said
abbrev pub IsRefused : List Token → ParseError → Type 0
IsRefused tokens (Syntax line) = GoesWrong tokens line
IsRefused tokens NoMemory = ⊤

-- the tokens are a condition of this tree, and of no other; or they are none
abbrev pub IsOnlyCondition : List Token → Option Tree → Type 0
IsOnlyCondition tokens (Some tree) = IsCondition tokens tree × ((other : Tree) → IsCondition tokens other → other ≡ tree)
IsOnlyCondition tokens None = (other : Tree) → IsCondition tokens other → ⊥
