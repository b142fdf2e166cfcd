-- What reading says of a condition.
use Rattle.std.proofs.Common.{◌≡◌, ◌≢◌, ◌∙◌, ℕ, Bool, true, false, List, Option, Some, None, sym, ap}
use Rattle.std.proofs.lemmas.Bool.{eq-eqb, ne_eqb}
use Rattle.std.specs.Prelude.{if◌then◌else◌, nat_eq}
use Rattle.c_lexer.specs.declared.token.Token.{Token}
use Rattle.c_tree.specs.Depth.{most}
use Rattle.c_tree.specs.Grammar.{cond_level}
use Rattle.c_tree.specs.Places.{Expression}
use Rattle.c_tree.specs.Tree.{Tree}
use Rattle.grammar_reading.specs.Conditions.{ConditionsAreRead, ReadConditionsAreTrees, whole_tree, read_condition}
use Rattle.grammar_reading.specs.Rooms.{read, start_of}
use Rattle.grammar_reading.specs.State.{State, left_at}
use Rattle.parser_parts.specs.Gives.{Fails}
use Rattle.parser_parts.specs.declared.error.ReadError.{ReadError}
use Rattle.parser_parts.specs.declared.error.ReadError.TheVariants as errors
use Rattle.c_parser.specs.Parses.{IsOnlyCondition}

-- by what is read of the tokens, and whether a word is left behind it
condition_told : (tokens : List Token) (old : State) (found : Option (Tree × State)) → old ≡ start_of tokens → read most (Expression cond_level) old ≡ found → read_condition tokens ≡ whole_tree found
unfolding read_condition
condition_told tokens old found start told = ap (λ state. whole_tree (read most (Expression cond_level) state)) (sym start) ∙ ap whole_tree told

none_behind : (tree : Tree) (new : State) (b : Bool) → nat_eq (left_at new) 0 ≡ b → whole_tree (Some (tree, new)) ≡ (if b then Some tree else None)
none_behind tree new b h = ap (λ (t : Bool). if t then Some tree else None) h

-- a condition, with no word left behind it
pub whole_read : (tokens : List Token) (old new : State) (tree : Tree) (left : ℕ) → old ≡ start_of tokens → read most (Expression cond_level) old ≡ Some (tree, new) → left ≡ left_at new → left ≡ 0 → Some tree ≡ read_condition tokens
whole_read tokens old new tree left start told count none =
    sym (condition_told tokens old (Some (tree, new)) start told ∙ none_behind tree new true (eq-eqb (left_at new) 0 (sym count ∙ none)))

-- one with words left behind it
pub more_read : (tokens : List Token) (old new : State) (tree : Tree) (left : ℕ) → old ≡ start_of tokens → read most (Expression cond_level) old ≡ Some (tree, new) → left ≡ left_at new → left ≢ 0 → None ≡ read_condition tokens
more_read tokens old new tree left start told count some =
    sym (condition_told tokens old (Some (tree, new)) start told ∙ none_behind tree new false (ne_eqb (left_at new) 0 (λ e. some (count ∙ e))))

-- and none
pub not_read : (tokens : List Token) (old : State) (error : ReadError) → old ≡ start_of tokens → error ≡ errors.Syntax → Fails error (read most (Expression cond_level) old) → None ≡ read_condition tokens
not_read tokens old errors.NoMemory start is told = absurd (not_memory is) where
  not_memory : errors.NoMemory ≡ errors.Syntax → ⊥
  not_memory h = cc
not_read tokens old errors.Syntax start is told = sym (condition_told tokens old None start told)

none_not : (tree : Tree) → None ≡ Some tree → ⊥
none_not tree h = cc

some_same : (a b : Tree) → Some a ≡ Some b → a ≡ b
some_same a b h = cc

-- what is read is the only tree of a condition
pub only_condition : ConditionsAreRead → ReadConditionsAreTrees → (tokens : List Token) (found : Option Tree) → found ≡ read_condition tokens → IsOnlyCondition tokens found
only_condition reads trees tokens None e = λ other has. none_not other (e ∙ reads tokens other has)
only_condition reads trees tokens (Some tree) e =
    (trees tokens tree (sym e), λ other has. some_same other tree (sym (reads tokens other has) ∙ sym e))
