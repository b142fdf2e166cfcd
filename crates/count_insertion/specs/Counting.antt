-- Sets of registers, at the points where some count.
use Rattle.std.specs.Prelude.{◌≡◌, ◌<◌, ◌≤◌, ◌-◌, ◌*◌, ℕ, Bool, true, false, not, List, Option, filter, length}
use Rattle.std.specs.List.{range_with_len}
use Rattle.core_tree.specs.declared.program.Func.{Func}
use Rattle.core_tree.specs.declared.statements.StmKind.{StmKind}
use Rattle.core_tree.specs.declared.statements.StmKind.TheVariants.{Call}
use Rattle.object_meaning.specs.counted.Pinning.{holds_pointer}
use Rattle.object_meaning.specs.objects.Holding.{takes_answer}
use Rattle.local_liveness.specs.Sets.{has}
use Rattle.local_liveness.specs.Tables.{words_of}

-- a set has exactly the registers of a function that are for pointers
pub record HasPointers (pointers : List ℕ) (func : Func) : Type 0 where
  pub words : length pointers ≡ words_of func
  pub exact : (r : ℕ) → r < 64 * length pointers → has pointers r ≡ holds_pointer func r

-- whether a register has its value at a statement: the answer of a call is not there yet
abbrev pub is_there : StmKind → ℕ → Bool
is_there (Call f answer args) r = not (takes_answer answer r)
is_there kind r = true

-- the registers from one on and below a bound that pass a test, ascending
abbrev pub passing : (ℕ → Bool) → ℕ → ℕ → List ℕ
passing test from until = filter test (range_with_len from (until - from))

-- the registers below a bound without the one that takes an answer: those below one number, and those from another on
pub record AreSides (answer : Option ℕ) (bound until from : ℕ) : Type 0 where
  pub order : until ≤ from
  pub ends : from ≤ bound
  pub below : (r : ℕ) → r < until → takes_answer answer r ≡ false
  pub between : (r : ℕ) → until ≤ r → r < from → takes_answer answer r ≡ true
  pub above : (r : ℕ) → from ≤ r → r < bound → takes_answer answer r ≡ false
