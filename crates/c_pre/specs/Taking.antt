-- What is taken from the front of tokens that are left.
use Rattle.std.specs.Prelude.{◌≡◌, ℕ, List, [], ◌∷◌, Option, Some, MatchOption}
use Rattle.c_pre.specs.Expansion.{split_from}
use Rattle.c_pre.specs.Splitting.{SplitsAt}
use Rattle.c_pre.specs.Table.{Numbers}
use Rattle.c_pre.specs.declared.marked.Marked.{Marked}
use Rattle.c_pre.specs.declared.row.Piece.{Piece}
use Rattle.c_pre.specs.declared.rest.Found.{Found}

-- the first of a list is taken, where there is one
abbrev pub TakesFirst : {A : Type 0} → List A → List A → Option A → Type 0
TakesFirst old new first = MatchOption first ((old ≡ []) × (new ≡ [])) (λ item. old ≡ item ∷ new)

-- the arguments of a call are taken, with what is hidden from its `)`, or nothing changes
abbrev pub TakesCall : Option ℕ → List Marked → List Marked → Option (List (List Marked) × Numbers) → Type 0
TakesCall keeps old new call =
    MatchOption call (new ≡ old)
    (λ it. split_from keeps 0 [] [] old ≡ Some (record { args = it.0; hidden = it.1; rest = new }))

-- a call whose `(` stands before a piece is split in it
abbrev pub SplitsPiece : Option ℕ → Piece → Found → Type 0
SplitsPiece keeps piece it = SplitsAt keeps piece.row.value.tokens.items piece.from piece.to it.args it.end
