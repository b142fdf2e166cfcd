-- Marks at the instructions of code behind which a register is live.
use Rattle.std.specs.Prelude.{◌≡◌, ◌<◌, ◌≤◌, ◌&&◌, ◌||◌, ◌↔◌, ℕ, Bool, true, false, not, List, length, slice_index_or, count_by, IsTrue}
use Rattle.std.specs.List.{list_any}
use Rattle.flat_code.specs.declared.program.Code.{Code}
use Rattle.flat_code.specs.Lives.{IsLive, edges_at, reads_at, writes_at}

-- whether an instruction is marked; one outside of the code is not
abbrev pub marked : List Bool → ℕ → Bool
marked marks point = slice_index_or marks point false

-- whether a register is wanted in front of an instruction: it is read there, or the instruction is marked and does not write it
abbrev pub is_wanted : Code → List Bool → ℕ → ℕ → Bool
is_wanted code marks r point = reads_at code point r || (not (writes_at code point r) && marked marks point)

-- whether it is wanted where the run may go from an instruction
unfoldable pub leads_to_wanted : Code → List Bool → ℕ → ℕ → Bool
leads_to_wanted code marks r point = list_any (is_wanted code marks r) (edges_at code point)

-- only instructions are marked behind which the register is live
abbrev pub AreLive : Code → ℕ → List Bool → Type 0
AreLive code r marks = (p : ℕ) → IsTrue (marked marks p) → IsLive code p r

-- the marks after one more instruction was looked at, from which the register may be wanted
pub record Visits (code : Code) (r point : ℕ) (old new : List Bool) (more : Bool) : Type 0 where
  pub long : length new ≡ length old
  pub kept : more ≡ false → new ≡ old
  pub was : more ≡ false → IsTrue (leads_to_wanted code old r point) → IsTrue (marked old point)
  pub live : AreLive code r old → AreLive code r new
  pub fewer : count_by not new ≤ count_by not old
  pub less : more ≡ true → count_by not new < count_by not old

-- the same of all instructions from one on
pub record Sweeps (code : Code) (r first : ℕ) (old new : List Bool) (more : Bool) : Type 0 where
  pub long : length new ≡ length old
  pub kept : more ≡ false → new ≡ old
  pub was : more ≡ false → (p : ℕ) → first ≤ p → p < length old → IsTrue (leads_to_wanted code old r p) → IsTrue (marked old p)
  pub live : AreLive code r old → AreLive code r new
  pub fewer : count_by not new ≤ count_by not old
  pub less : more ≡ true → count_by not new < count_by not old

-- exactly the instructions are marked behind which the register is live
pub record AreMarked (code : Code) (r : ℕ) (marks : List Bool) : Type 0 where
  pub long : length marks ≡ length code.instrs
  pub exact : (p : ℕ) → IsTrue (marked marks p) ↔ IsLive code p r
