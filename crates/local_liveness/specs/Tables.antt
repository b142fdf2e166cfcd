-- The table of a function, and the sets that it gives.
use Rattle.std.specs.Prelude.{◌≡◌, ◌<◌, ◌≤◌, ◌*◌, ◌↔◌, ℕ, List, length, IsTrue}
use Rattle.std.specs.Int.{div_ceil}
use Rattle.core_tree.specs.declared.program.Func.{Func}
use Rattle.core_tree.specs.declared.statements.Stm.{Stm}
use Rattle.core_tree.specs.Lives.{IsLive, is_live}
use Rattle.local_liveness.specs.Sets.{has}
use Rattle.local_liveness.specs.Sweeps.{IsFilled}

-- so many words have a bit for each register of a function
abbrev pub words_of : Func → ℕ
words_of func = div_ceil (length func.regs) 64

-- a table has, for each point to which some statement jumps, what is live in front of it
abbrev pub IsTableOf : List (List ℕ) → Func → Type 0
IsTableOf fronts func = IsFilled func.body (words_of func) fronts

-- a set has room for each register, and has exactly those that are live after a point
pub record HasLive (live : List ℕ) (func : Func) (point : ℕ) : Type 0 where
  pub words : length live ≡ words_of func
  pub room : length func.regs ≤ 64 * length live
  pub exact : (r : ℕ) → r < 64 * length live → (IsTrue (has live r) ↔ IsLive func.body point r)

-- the bounded test of liveness says what paths say: the law `live_by_paths` of `core_tree`
abbrev pub LiveByPaths : Type 0
LiveByPaths = (body : List Stm) (point r : ℕ) → IsTrue (is_live body point r) ↔ IsLive body point r
