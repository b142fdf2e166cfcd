-- An `if` with what stands behind `else`, or without it.
use Rattle.std.proofs.Common.{◌≡◌, ℕ, Bool, true, false, Option, Some, None, refl, sym, ap, ◌∙◌}
use Rattle.c_tree.specs.declared.word.Keyword.TheVariants as k
use Rattle.c_tree.specs.Words as w
use Rattle.c_tree.specs.Forms as f
use Rattle.c_tree.specs.Places.{Place, Branch}
use Rattle.c_tree.specs.StatementView.{if_view}
use Rattle.c_tree.specs.Tree.{Tree, Trees, At, Node, none, ◌▹◌}
use Rattle.grammar_reading.specs.State.{State, past}
use Rattle.grammar_reading.specs.Reading.{◌>>=◌, Reader}
use Rattle.grammar_reading.specs.Statements.{else_by}
use Rattle.grammar_reading.specs.ReadingEquations.{none_some, some_same}
use Rattle.c_parser.specs.Pieces.{else_part}

-- what was read behind `else`
abbrev there : Tree × State → Option (Option Tree × State)
there x = Some (Some x.0, x.1)

-- the same as a last part
abbrev last_part : Tree × State → Option (Trees × State)
last_part x = Some (x.0 ▹ none, x.1)

-- a tree, and where the reader stands behind it
abbrev ending_at : State → Tree → Option (Tree × State)
ending_at behind tree = Some (tree, behind)

module _ (line : ℕ) (test body : Tree) where
  abbrev with_last : Trees × State → Option (Tree × State)
  with_last x = Some (Node f.IfElse (At line ▹ test ▹ body ▹ x.0), x.1)

  abbrev with_other : Option Tree × State → Option (Tree × State)
  with_other x = Some (if_view line test body x.0, x.1)

  other_read : (r : Option (Tree × State)) (x : Option Tree × State) → r >>= there ≡ Some x → r >>= last_part >>= with_last ≡ with_other x
  other_read None x h = none_some h
  other_read (Some y) x h = ap with_other (some_same h)

  none_read : (r : Option (Tree × State)) → r >>= there ≡ None → r >>= last_part >>= with_last ≡ None
  none_read None h = refl
  none_read (Some y) h = none_some (sym h)

  module _ (inner : Place → Reader) (room : ℕ) where
    past_else : (next : Option State) (x : Option Tree × State) → next >>= (λ s. inner Branch s >>= there) ≡ Some x → next >>= (λ s. inner Branch s >>= last_part) >>= with_last ≡ with_other x
    past_else None x h = none_some h
    past_else (Some s) x h = other_read (inner Branch s) x h

    none_past_else : (next : Option State) → next >>= (λ s. inner Branch s >>= there) ≡ None → next >>= (λ s. inner Branch s >>= last_part) >>= with_last ≡ None
    none_past_else None h = refl
    none_past_else (Some s) h = none_read (inner Branch s) h

    pub else_is : (flag : Bool) (state behind : State) (other : Option Tree) (whole : Tree) → else_part inner room flag state ≡ Some (other, behind) → whole ≡ if_view line test body other → else_by inner room (At line ▹ test ▹ body ▹ none) flag state ≡ Some (whole, behind)
    else_is true state behind other whole h same = past_else (past (w.Key k.Else) state) (other, behind) h ∙ ap (ending_at behind) (sym same)
    else_is false state behind other whole h same = ap with_other (some_same h) ∙ ap (ending_at behind) (sym same)

    pub else_fails : (flag : Bool) (state : State) → else_part inner room flag state ≡ None → else_by inner room (At line ▹ test ▹ body ▹ none) flag state ≡ None
    else_fails true state h = none_past_else (past (w.Key k.Else) state) h
    else_fails false state h = none_some (sym h)
