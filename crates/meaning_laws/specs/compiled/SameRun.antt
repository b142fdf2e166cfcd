-- When two runs are the same but for the points that their frames are at.
use Rattle.std.specs.Prelude.{◌≡◌, ℕ, List, [], ◌∷◌}
use Rattle.hs_base.specs.State.{Frame, State}
use Rattle.object_meaning.specs.counted.CountedMeaning as core
use Rattle.object_meaning.specs.code.CodeMeaning as code

-- two frames of the same call: their points may differ
pub record SameFrame (one other : Frame) : Type 0 where
  pub func : one.func ≡ other.func
  pub regs : one.regs ≡ other.regs
  pub first_local : one.first_local ≡ other.first_local

-- as many frames, the same one by one
abbrev pub SameFrames : List Frame → List Frame → Type 0
SameFrames [] [] = Unit {0}
SameFrames (one ∷ frames) (other ∷ others) = SameFrame one other × SameFrames frames others
SameFrames _ _ = ⊥

-- two states that differ in points alone
pub record SameState (one other : State) : Type 0 where
  pub objects : one.objects ≡ other.objects
  pub running : SameFrame one.running other.running
  pub waiting : SameFrames one.waiting other.waiting
  pub queue : one.queue ≡ other.queue
  pub scopes : one.scopes ≡ other.scopes
  pub input : one.input ≡ other.input
  pub steps : one.steps ≡ other.steps

-- a run of a core by numbers and one of a code; what a code has handed over is not compared
pub record SameRun (of_core : core.Run) (of_code : code.Run) : Type 0 where
  pub trace : of_core.trace ≡ of_code.trace
  pub ended : of_core.ended ≡ of_code.ended
  pub state : SameState of_core.state.state of_code.state.state
  pub numbers : (birth : ℕ) → of_core.state.numbers birth ≡ of_code.state.numbers birth
