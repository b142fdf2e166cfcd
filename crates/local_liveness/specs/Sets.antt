-- Sets of registers as words of 64 bits.
use Rattle.std.specs.Prelude.{◌≡◌, ◌==◌, ◌<◌, ◌≤◌, ◌*◌, ◌/◌, ◌%◌, ◌&&◌, ◌||◌, ℕ, Bool, true, false, not, List, [], length, Option, slice_index, slice_index_or}
use Rattle.std.specs.Option.{option_map_or}
use Rattle.std.specs.Int.{bit_at}
use Rattle.local_liveness.specs.declared.runs.Run.{Run}

-- whether a register is in a set; one past the last word is not
unfoldable pub has : List ℕ → ℕ → Bool
has set r = bit_at (slice_index set (r / 64)) (r % 64) == 1

-- which words of a set have a register, and which have all: a word without the first mark has none, one with the second has all
pub record AreMarks (words some full : List ℕ) : Type 0 where
  pub room : length words ≤ 64 * length some
  pub none : (place : ℕ) → place < length words → has some place ≡ false → slice_index words place ≡ 0
  pub all : (place : ℕ) → has full place ≡ true → slice_index words place ≡ 18446744073709551615

-- a set is another one with what a test passes
pub record Adds (test : ℕ → Bool) (old new : List ℕ) : Type 0 where
  pub words : length new ≡ length old
  pub bits : (r : ℕ) → r < 64 * length old → has new r ≡ (test r || has old r)

-- a set is another one without what a test passes
pub record Drops (test : ℕ → Bool) (old new : List ℕ) : Type 0 where
  pub words : length new ≡ length old
  pub bits : (r : ℕ) → r < 64 * length old → has new r ≡ (not (test r) && has old r)

-- a set gets, in as many words, exactly the registers that pass a test
pub record Becomes (test : ℕ → Bool) (old new : List ℕ) : Type 0 where
  pub words : length new ≡ length old
  pub bits : (r : ℕ) → r < 64 * length old → has new r ≡ test r

-- whether a register is in two sets
abbrev pub in_both : List ℕ → List ℕ → ℕ → Bool
in_both one other r = has one r && has other r

-- no register from one on and below a bound passes a test
abbrev pub HasNone : (ℕ → Bool) → ℕ → ℕ → Type 0
HasNone test from until = (r : ℕ) → from ≤ r → r < until → test r ≡ false

-- the next run of registers that pass a test, from one on and below a bound: none stands before it, and it goes as far as it can
pub record IsRun (test : ℕ → Bool) (from until : ℕ) (run : Run) : Type 0 where
  pub starts : from ≤ run.first
  pub some : run.first < run.end
  pub ends : run.end ≤ until
  pub before : HasNone test from run.first
  pub inside : (r : ℕ) → run.first ≤ r → r < run.end → test r ≡ true
  pub whole : run.end < until → test run.end ≡ false

-- the first register from one on at which a test gives an answer; the bound where it gives it nowhere below
pub record IsFirst (test : ℕ → Bool) (answer : Bool) (from until first : ℕ) : Type 0 where
  pub starts : from ≤ first
  pub ends : first ≤ until
  pub before : (r : ℕ) → from ≤ r → r < first → test r ≡ not answer
  pub here : first < until → test first ≡ answer

-- the set of a point; past the last there is none
abbrev pub set_at : List (List ℕ) → ℕ → List ℕ
set_at sets point = slice_index_or sets point []

-- whether a register is in the set of a target, if there is one
abbrev pub has_target : List (List ℕ) → Option ℕ → ℕ → Bool
has_target sets target r = option_map_or (λ point. has (set_at sets point) r) target false
