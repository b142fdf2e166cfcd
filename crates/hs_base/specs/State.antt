-- The state of a run.
use Rattle.std.specs.Prelude.{ℕ, List}
use Rattle.hs_base.specs.declared.values.Value.{Value}
use Rattle.hs_base.specs.Object.{Object}

-- a call that is under way: its function, the point that it is at, its registers, and the birth of its first memory local
pub record Frame : Type 0 where
  pub func : ℕ
  pub point : ℕ
  pub regs : List Value
  pub first_local : ℕ

-- the objects by birth, the running frame, the waiting frames from newest to oldest, the births that are queued in the
-- order of their frees, how many scopes are open, the input left, and the steps left; the next birth is the number of objects
pub record State : Type 0 where
  pub objects : List Object
  pub running : Frame
  pub waiting : List Frame
  pub queue : List ℕ
  pub scopes : ℕ
  pub input : List ℕ
  pub steps : ℕ
