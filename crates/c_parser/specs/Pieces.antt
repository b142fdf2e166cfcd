-- Parts of reading, as the functions of the code have them.
use Rattle.std.specs.Prelude.{ℕ, Bool, true, false, if◌then◌else◌, Option, Some, None}
use Rattle.c_tree.specs.Allowed.{Tally}
use Rattle.c_tree.specs.declared.word.Keyword.{Keyword}
use Rattle.c_tree.specs.declared.word.Keyword.TheVariants as k
use Rattle.c_tree.specs.declared.word.Sign.TheVariants as s
use Rattle.c_tree.specs.Forms as f
use Rattle.c_tree.specs.Places.{Place}
use Rattle.c_tree.specs.Places as p
use Rattle.c_tree.specs.Tree.{Tree, Trees, Leaf, Node, none, ◌▹◌}
use Rattle.c_tree.specs.Words as w
use Rattle.grammar_reading.specs.declared.kind.Kind.{Kind}
use Rattle.grammar_reading.specs.declared.kind.Kind.TheVariants as kinds
use Rattle.grammar_reading.specs.declared.kind.SpecStart.{SpecStart}
use Rattle.grammar_reading.specs.declared.kind.SpecStart.TheVariants as starts
use Rattle.grammar_reading.specs.State.{State, kind_at, word_at, past, skip}
use Rattle.grammar_reading.specs.Reading.{◌>>=◌, Reader, fixed, snoc}
use Rattle.grammar_reading.specs.Declarators.{is_void_list, function_suffix_at, keep_params, with_key, with_whole, record_at, enum_at}
use Rattle.grammar_reading.specs.Statements.{if_at}

-- whether a token is a string literal
abbrev pub is_literal : Kind → Bool
is_literal kinds.Str = true
is_literal _ = false

-- whether a token begins a suffix
abbrev pub begins_suffix : Kind → Bool
begins_suffix (kinds.Mark s.LeftBracket) = true
begins_suffix (kinds.Mark s.LeftParen) = true
begins_suffix _ = false

-- whether specs end
abbrev pub is_end : SpecStart → Bool
is_end starts.End = true
is_end _ = false

-- inner reads a tree of a place with less room than there is here, and none where there is none
module _ (inner : Place → Reader) (room : ℕ) where
  -- a suffix
  abbrev pub suffix_by : Kind → Reader
  suffix_by (kinds.Mark s.LeftBracket) state = fixed inner f.ArraySuffix state
  suffix_by (kinds.Mark s.LeftParen) state = function_suffix_at inner room state
  suffix_by _ state = None

  abbrev pub suffix_at : Reader
  suffix_at state = suffix_by (kind_at state) state

  -- a suffix, and the parameters next to the name behind it
  abbrev pub kept_suffix_at : Bool → Reader
  kept_suffix_at first state = suffix_at state >>= (λ x. Some (x.0, keep_params first state x.1))

  -- one word of specs behind others, with the tally
  abbrev pub one_word_at : Tally → Trees → SpecStart → State → Option ((Tally × Trees) × State)
  one_word_at tally parts starts.Word state =
      Some ((with_key (kind_at state) tally, snoc parts (Leaf (word_at state))), skip state)
  one_word_at tally parts starts.TypedefName state =
      Some ((with_whole tally, snoc parts (Node f.TypedefName (Leaf (word_at state) ▹ none))), skip state)
  one_word_at tally parts (starts.Record sort) state =
      record_at inner room sort state >>= (λ x. Some ((with_whole tally, snoc parts x.0), x.1))
  one_word_at tally parts starts.Enum state =
      enum_at inner room state >>= (λ x. Some ((with_whole tally, snoc parts x.0), x.1))
  one_word_at tally parts starts.End state = None

  -- the statement behind `else`, where there is one
  abbrev pub else_part : Bool → State → Option (Option Tree × State)
  else_part true state = past (w.Key k.Else) state >>= (λ next. inner p.Branch next >>= (λ x. Some (Some x.0, x.1)))
  else_part false state = Some (None, state)

  -- a statement with parts of its own by its keyword, before it ends as a scope
  abbrev pub open_at : Keyword → Reader
  open_at k.DelayFrees state = fixed inner f.Delay state
  open_at k.If state = if_at inner room state
  open_at k.While state = fixed inner f.While state
  open_at k.Do state = fixed inner f.Do state
  open_at k.For state = fixed inner f.For state
  open_at k.Switch state = fixed inner f.Switch state
  open_at _ state = None

-- a parameter list, before it ends as a scope
abbrev pub open_function_at : (Place → Reader) → Reader
open_function_at inner state = if is_void_list state then fixed inner f.VoidSuffix state else fixed inner f.FunctionSuffix state
