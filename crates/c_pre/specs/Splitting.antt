-- How a call is split in a row of tokens.
use Rattle.std.specs.Prelude.{◌≡◌, ℕ, suc, ◌<◌, ◌≤◌, List, [], ◌∷◌, ◌++◌, Option, Some, None, slice_get}
use Rattle.c_pre.specs.Expansion.{split_from}
use Rattle.c_pre.specs.Rows.{segment}
use Rattle.c_pre.specs.Table.{Numbers}
use Rattle.c_pre.specs.declared.marked.Marked.{Marked}
use Rattle.c_pre.specs.declared.calls.Splitting.{Splitting}

-- a call whose `(` stands before a part of a row has these arguments, and its `)` at this place of the row
pub record SplitsAt (keeps : Option ℕ) (tokens : List Marked) (from to : ℕ) (args : List (List Marked)) (end : ℕ) : Type 0 where
  pub within : end < to
  pub same : (t : Marked) (rest : List Marked) → slice_get tokens end ≡ Some t
      → split_from keeps 0 [] [] (segment from to tokens ++ rest)
      ≡ Some (record { args = args; hidden = t.hidden; rest = segment (suc end) to tokens ++ rest })

-- a call is split up to a place of a row, with an argument that begins at another
pub record SplitUpTo (keeps : Option ℕ) (tokens : List Marked) (from to start at : ℕ) (args : List (List Marked)) : Type 0 where
  pub low : start ≤ at
  pub high : at ≤ to
  pub same : (rest : List Marked)
      → split_from keeps 0 args (segment start at tokens) (segment at to tokens ++ rest)
      ≡ split_from keeps 0 [] [] (segment from to tokens ++ rest)

-- the argument that has not ended ends
abbrev pub argument_ended : Splitting → Splitting
argument_ended s = record s { args = s.args ++ s.current ∷ []; current = [] }

-- a token goes to it, behind which so many `(` stand open
abbrev pub token_kept : ℕ → Marked → Splitting → Splitting
token_kept depth t s = record s { depth = depth; current = s.current ++ t ∷ [] }

-- a token of a call is taken: it ends the call, with what is hidden from it, or it goes to the arguments or the one that begins
abbrev pub TakesToken : Option ℕ → Marked → Splitting → Splitting → Option Numbers → Type 0
TakesToken keeps t old new None =
    (rest : List Marked) → split_from keeps old.depth old.args old.current (t ∷ rest)
    ≡ split_from keeps new.depth new.args new.current rest
TakesToken keeps t old new (Some hidden) =
    (rest : List Marked) → split_from keeps old.depth old.args old.current (t ∷ rest)
    ≡ Some (record { args = new.args; hidden = hidden; rest = rest })
