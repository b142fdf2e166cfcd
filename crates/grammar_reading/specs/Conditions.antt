-- Conditions: the tokens of one constant expression, with nothing behind it, where no name is declared (C99 6.6, 6.10.1).
use Rattle.std.specs.Prelude.{◌≡◌, ◌≤◌, nat_eq, if◌then◌else◌, List, [], Option, Some, None}
use Rattle.c_lexer.specs.declared.token.Token.{Token}
use Rattle.c_tree.specs.Allowed.{Takes, Allowed}
use Rattle.c_tree.specs.Depth.{depth, most}
use Rattle.c_tree.specs.Grammar.{cond_level}
use Rattle.c_tree.specs.Places.{Expression}
use Rattle.c_tree.specs.Scopes.{first_scope}
use Rattle.c_tree.specs.Spelling.{spell, Spells}
use Rattle.c_tree.specs.Tree.{Tree}
use Rattle.grammar_reading.specs.State.{State, left_at}
use Rattle.grammar_reading.specs.Rooms.{read, start_of}

-- the tokens are a condition of this tree: it may stand where a constant expression does and is allowed where no name is
-- declared, they are its words, with the lines that it tells, and it is not too deep
pub record IsCondition (tokens : List Token) (tree : Tree) : Type 0 where
  pub stands : Takes (Expression cond_level) tree
  pub allowed : Allowed tree first_scope
  pub spelled : Spells (spell tree) tokens []
  pub flat : depth tree ≤ most

-- a tree that was read, where no word is left behind it
abbrev pub whole_tree : Option (Tree × State) → Option Tree
whole_tree None = None
whole_tree (Some x) = if nat_eq (left_at x.1) 0 then Some x.0 else None

-- the tree of a condition, where the tokens are one
unfoldable pub read_condition : List Token → Option Tree
read_condition tokens = whole_tree (read most (Expression cond_level) (start_of tokens))

-- the tree of a condition is read
abbrev pub ConditionsAreRead : Type 0
ConditionsAreRead = (tokens : List Token) (tree : Tree) → IsCondition tokens tree → read_condition tokens ≡ Some tree

-- and what is read is the tree of a condition
abbrev pub ReadConditionsAreTrees : Type 0
ReadConditionsAreTrees = (tokens : List Token) (tree : Tree) → read_condition tokens ≡ Some tree → IsCondition tokens tree
