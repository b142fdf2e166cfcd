-- Rows of tokens, and the parentheses in them.
use Rattle.std.specs.Prelude.{◌≡◌, ℕ, zero, suc, ◌<◌, Bool, true, false, if◌then◌else◌, List, [], ◌∷◌, length, Option, Some, None, slice_get}
use Rattle.c_pre.specs.Directives.{is_sign}
use Rattle.c_pre.specs.declared.marked.Marked.{Marked}

-- the tokens from one place on and before another
abbrev pub segment : ℕ → ℕ → List Marked → List Marked
segment from zero tokens = []
segment zero (suc to) [] = []
segment zero (suc to) (t ∷ tokens) = t ∷ segment zero to tokens
segment (suc from) (suc to) [] = []
segment (suc from) (suc to) (t ∷ tokens) = segment from to tokens

-- at a place stands a `(`, or a `)`
abbrev pub opens : Option Marked → Bool
opens None = false
opens (Some t) = is_sign 40 t.token

abbrev pub closes : Option Marked → Bool
closes None = false
closes (Some t) = is_sign 41 t.token

-- how many `(` stand open behind a `)`, by how many before it
abbrev pub one_less : ℕ → Option ℕ
one_less zero = None
one_less (suc depth) = Some depth

-- what follows a number, if there is one
abbrev pub if_some : Option ℕ → (ℕ → Option ℕ) → Option ℕ
if_some None next = None
if_some (Some n) next = next n

-- how many `(` stand open behind some tokens, by how many before them; none where a `)` has no `(`
abbrev pub depth_behind : ℕ → List Marked → Option ℕ
depth_behind depth [] = Some depth
depth_behind depth (t ∷ tokens) =
    if is_sign 41 t.token then if_some (one_less depth) (λ less. depth_behind less tokens) else
    if is_sign 40 t.token then depth_behind (suc depth) tokens else depth_behind depth tokens

-- a `(` and its `)` stand at these places
pub record Pair (tokens : List Marked) (at end : ℕ) : Type 0 where
  pub within : end < length tokens
  pub first : opens (slice_get tokens at) ≡ true
  pub last : closes (slice_get tokens end) ≡ true
  pub inner : depth_behind 0 (segment (suc at) end tokens) ≡ Some 0

-- where an end is given for a place, a `(` stands at that and its `)` there
abbrev pub Paired : List Marked → List ℕ → Type 0
Paired tokens ends = (at end : ℕ) → slice_get ends at ≡ Some end → at < end → Pair tokens at end

-- before a place stands a `(` at each of these, the last first, that has no `)` before it
abbrev pub StandOpen : List Marked → ℕ → List ℕ → Type 0
StandOpen tokens at [] = Unit {0}
StandOpen tokens at (place ∷ places) =
    (place < at) × (opens (slice_get tokens place) ≡ true) × (depth_behind 0 (segment (suc place) at tokens) ≡ Some 0)
    × StandOpen tokens place places

-- the ends for the tokens before a place, and the `(` among these that stand open
pub record PairedUpTo (tokens : List Marked) (at : ℕ) (ends places : List ℕ) : Type 0 where
  pub count : length ends ≡ at
  pub pairs : Paired tokens ends
  pub open_places : StandOpen tokens at places
