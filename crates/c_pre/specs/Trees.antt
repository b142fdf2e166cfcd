-- Sets of numbers that share their parts.
use Rattle.std.specs.Prelude.{◌≡◌, ℕ, ◌+◌, ◌-◌, Bool, false, not, ◌&&◌, nat_lt, if◌then◌else◌, List, [], ◌++◌, map}
use Rattle.std.specs.FinSet as set
use Rattle.std.specs.List.{filter, range_with_len}
use Rattle.c_pre.specs.Table.{Numbers}
use Rattle.c_pre.specs.declared.hidden.Tree.{Tree, Empty, Range, Parts'}

-- a number is in a set: in two parts are the numbers below a half, and the others, less the half
abbrev pub has : Tree → ℕ → Bool
has Empty n = false
has (Range from to) n = not (nat_lt n from) && nat_lt n to
has (Parts' p half low high) n =
    if nat_lt n half then has low n else has high (n - half)

-- a set is joined of two others: of the numbers below a half, and of the others, less the half
abbrev pub IsJoined : ℕ → Tree → Tree → Tree → Type 0
IsJoined half low high whole = (n : ℕ) → has whole n ≡ (if nat_lt n half then has low n else has high (n - half))

-- a number is from one on and below another
abbrev pub is_between : ℕ → ℕ → ℕ → Bool
is_between from to n = not (nat_lt n from) && nat_lt n to

-- the numbers of a set
abbrev pub members : Tree → List ℕ
members Empty = []
members (Range from to) = range_with_len from (to - from)
members (Parts' p half low high) =
    filter (λ n. nat_lt n half) (members low) ++ map (λ n. n + half) (members high)

-- the same as a set
unfoldable pub numbers : Tree → Numbers
numbers tree = set.from_list (members tree)
