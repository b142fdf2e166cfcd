-- What holds of each state of a run: no pointer that counts, or that is still read, leads to a dead object.
use Rattle.std.specs.Prelude.{◌≡◌, ℕ, Bool, true, false, not, ◌&&◌, ◌||◌, List, get_or, pos, Option, Some, None, slice_get}
use Rattle.hs_base.specs.declared.values.Pointer.TheVariants as pointer
use Rattle.hs_base.specs.declared.values.Value.{Value}
use Rattle.hs_base.specs.Object.{is_dead, object_at}
use Rattle.hs_base.specs.State.{Frame, State}
use Rattle.core_tree.specs.declared.statements.Stm.{Stm}
use Rattle.core_tree.specs.declared.program.Func.{Func}
use Rattle.core_tree.specs.declared.program.Core.{Core}
use Rattle.core_tree.specs.Statements.{reads_at, writes_at}
use Rattle.core_tree.specs.Lives.{is_live}
use Rattle.object_meaning.specs.objects.Values.{number, is_stale, holds_stale}
use Rattle.object_meaning.specs.objects.Holding.{answer_register, is_live_at, statement_at, takes_answer}

-- the value of a register
abbrev pub register : Frame → ℕ → Value
register frame r = get_or frame.regs r (number (pos 0))

-- the statement at a point reads a register, or the register is live after it and not written there
abbrev pub needed : List Stm → ℕ → ℕ → Bool
needed body point r = reads_at body point r || (not (writes_at body point r) && is_live body point r)

-- the same of the function that a frame runs
abbrev pub needed_in : Option Func → ℕ → ℕ → Bool
needed_in None point r = false
needed_in (Some func) point r = needed func.body point r

-- a register of the running frame that is still read
abbrev pub is_needed : Core → Frame → ℕ → Bool
is_needed core frame r = needed_in (slice_get core.funcs frame.func) frame.point r

-- a register of a waiting frame that counts: it is live there, and the answer of the call is not to come into it
abbrev pub counts_waiting : Core → Frame → ℕ → Bool
counts_waiting core frame r = is_live_at core frame r && not (takes_answer (answer_register (statement_at core frame)) r)

-- no slot of an object that is not dead, no register that is still read and none of a waiting frame that counts
-- holds a pointer to a dead object
pub record NothingDangles (core : Core) (s : State) : Type 0 where
  pub slots : (b k : ℕ) → is_dead (object_at s.objects b).standing ≡ false →
      is_stale s.objects (get_or (object_at s.objects b).pointers k pointer.Null) ≡ false
  pub running : (r : ℕ) → is_needed core s.running r ≡ true → holds_stale s.objects (register s.running r) ≡ false
  pub waiting : (k r : ℕ) (frame : Frame) → slice_get s.waiting k ≡ Some frame → counts_waiting core frame r ≡ true →
      holds_stale s.objects (register frame r) ≡ false
