-- Reading with so much room, and reading a text.
use Rattle.std.specs.Prelude.{ℕ, zero, suc, nat_eq, if◌then◌else◌, List, [], length, Option, Some, None}
use Rattle.c_lexer.specs.declared.token.Token.{Token}
use Rattle.c_tree.specs.Depth.{most}
use Rattle.c_tree.specs.Places.{Place, Expression}
use Rattle.c_tree.specs.Places as p
use Rattle.c_tree.specs.Scopes.{first_scope}
use Rattle.c_tree.specs.Tree.{Tree, Trees, none}
use Rattle.grammar_reading.specs.State.{State, left_at}
use Rattle.grammar_reading.specs.Reading.{Reader, snoc, guarded}
use Rattle.grammar_reading.specs.Expressions.{name_at, expression_at, arguments_at}
use Rattle.grammar_reading.specs.Declarators.{specs_at, declarator_at, typename_at, params_at, maybe_length_at, maybe_name_at, members_at, enumerators_at, inits_at, names_at}
use Rattle.grammar_reading.specs.Statements.{statement_at, items_at, branch_at, maybe_expr_at, for_start_at, external_at}

-- a tree of a place with so much room
module _ (inner : Place → Reader) (room : ℕ) where
  abbrev pub read_at : Place → Reader
  read_at (Expression level) state = guarded room (expression_at inner room level) state
  read_at p.Arguments state = arguments_at inner room state
  read_at p.Name state = name_at state
  read_at p.Typename state = typename_at inner room state
  read_at p.Specs state = specs_at inner room state
  read_at p.Names state = names_at inner room state
  read_at p.MaybeName state = maybe_name_at inner room state
  read_at p.Members state = members_at inner room state
  read_at p.Enumerators state = enumerators_at inner room state
  read_at p.Declarator state = declarator_at inner room p.Declarator state
  read_at p.Abstract state = declarator_at inner room p.Abstract state
  read_at p.AnyDeclarator state = declarator_at inner room p.AnyDeclarator state
  read_at p.Params state = params_at inner room state
  read_at p.MaybeLength state = maybe_length_at inner room state
  read_at p.Inits state = inits_at inner room state
  read_at p.Items state = items_at inner room state
  read_at p.Statement state = guarded room (statement_at inner room) state
  read_at p.Branch state = branch_at inner room state
  read_at p.ForStart state = for_start_at inner room state
  read_at p.MaybeExpr state = maybe_expr_at inner room state
  read_at _ state = None

-- a tree of a place that is at least one less deep than this
abbrev pub less : ℕ → Place → Reader
less zero place state = None
less (suc room) place state = read_at (less room) room place state

-- a tree of a place that is at most so deep
abbrev pub read : ℕ → Place → Reader
read room = less (suc room)

-- a text: all of its external declarations, or those in front of the first that has no tree
pub data Text : Type 0 where
  Whole : (externals : Trees) → Text
  Stops : (externals : Trees) (at : State) → Text

abbrev pub text_by : (Trees → State → Text) → Trees → State → Option (Tree × State) → Text
text_by again parts state None = Stops parts state
text_by again parts state (Some x) = again (snoc parts x.0) x.1

abbrev pub text_from : ℕ → Trees → State → Text
text_from zero parts state = Stops parts state
text_from (suc turns) parts state =
    if nat_eq (left_at state) 0
    then Whole parts
    else text_by (text_from turns) parts state (external_at (less most) most state)

-- where a text begins
abbrev pub start_of : List Token → State
start_of tokens = record { words = tokens; scope = first_scope; params = [] }

abbrev pub read_unit : List Token → Text
read_unit tokens = text_from (suc (length tokens)) none (start_of tokens)
