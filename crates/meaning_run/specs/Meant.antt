-- What a whole evaluation answers, writes and takes.
use Rattle.std.specs.Prelude.{◌≡◌, ◌+◌, ℕ, List, [], ◌∷◌, ◌++◌, Option, Some, None, Result, Ok, Err}
use Rattle.hs_base.specs.declared.ends.End.{End}
use Rattle.hs_base.specs.declared.ends.End.TheVariants as end
use Rattle.hs_base.specs.declared.items.NoMemory.{NoMemory}
use Rattle.hs_base.specs.Place.{blocks_after}
use Rattle.hs_base.specs.State.{State}
use Rattle.hs_base.specs.Trace.{Event, In, Ending, bytes_out, bytes_in, end_of}
use Rattle.core_tree.specs.declared.program.Core.{Core}
use Rattle.object_meaning.specs.objects.Meaning.{begun, meaning}
use Rattle.meaning_run.specs.declared.halt.Halt.{Halt}
use Rattle.meaning_run.specs.declared.halt.Halt.TheVariants as halt
use Rattle.meaning_run.specs.Leading.{with_input}

abbrev pub end_in : Option Ending → Option End
end_in None = None
end_in (Some ending) = end_of ending

-- the run stopped before an event that reads: what the events before it write was taken by the output, and what they read
-- was lost by the input
pub record StopsAtIn (trace : List Event) (input taken : List ℕ) (left' taken' : Option (List ℕ)) : Type 0 where
  pub before : List Event
  pub byte : Option ℕ
  pub rest : List Event
  pub is : trace ≡ before ++ In byte ∷ rest
  pub is_taken : taken' ≡ Some (taken ++ bytes_out before)
  pub left : List ℕ
  pub is_left : left' ≡ Some left
  pub is_read : bytes_in before ++ left ≡ input

-- the run stopped somewhere: what a first part of its events writes was taken by the output, and what that part reads was
-- lost by the input
pub record Stopped (trace : List Event) (input taken : List ℕ) (left' taken' : Option (List ℕ)) : Type 0 where
  pub before : List Event
  pub rest : List Event
  pub is : trace ≡ before ++ rest
  pub is_taken : taken' ≡ Some (taken ++ bytes_out before)
  pub left : List ℕ
  pub is_left : left' ≡ Some left
  pub is_read : bytes_in before ++ left ≡ input

-- the whole run: its end, all that it writes and all that it reads
pub record Whole (core : Core) (input : List ℕ) (n heap : ℕ) (taken : List ℕ) (e : End) (left' taken' : Option (List ℕ)) : Type 0 where
  pub end : end_in (meaning core input n heap).ended ≡ Some e
  pub is_taken : taken' ≡ Some (taken ++ bytes_out (meaning core input n heap).trace)
  pub left : List ℕ
  pub is_left : left' ≡ Some left
  pub is_read : bytes_in (meaning core input n heap).trace ++ left ≡ input

-- what an evaluation does with this input, with so many steps and in a heap of so many bytes, where these bytes were taken before
abbrev pub MeanAnswers : Core → List ℕ → ℕ → ℕ → List ℕ → Result End NoMemory → Option (List ℕ) → Option (List ℕ) → Type 0
MeanAnswers core input n heap taken (Ok end.InputFault) left' taken' = StopsAtIn (meaning core input n heap).trace input taken left' taken'
MeanAnswers core input n heap taken (Ok end.OutputFault) left' taken' = Stopped (meaning core input n heap).trace input taken left' taken'
MeanAnswers core input n heap taken (Ok e) left' taken' = Whole core input n heap taken e left' taken'
MeanAnswers core input n heap taken (Err e) left' taken' = Stopped (meaning core input n heap).trace input taken left' taken'

-- the counts of faults, of the input and of the output: a count rises, by one, exactly where that object failed
abbrev pub MeanCounts : Result End NoMemory → ℕ → ℕ → ℕ → ℕ → Type 0
MeanCounts (Ok end.InputFault) i i' o o' = (i' ≡ i + 1) × (o' ≡ o)
MeanCounts (Ok end.OutputFault) i i' o o' = (i' ≡ i) × (o' ≡ o + 1)
MeanCounts _ i i' o o' = (i' ≡ i) × (o' ≡ o)

-- the meaning knows no limit of stack
abbrev pub HasNoLimit : End → Type 0
HasNoLimit (end.OutOfStack line) = ⊥
HasNoLimit _ = Unit {0}

-- the first call of main was made, and the run is at this state, but for its input
pub record Begins (core : Core) (input : List ℕ) (n : ℕ) (now : State) : Type 0 where
  pub goes : (begun core input n).ended ≡ None
  pub state : (begun core input n).state ≡ with_input input now
  pub writes : bytes_out (begun core input n).trace ≡ []
  pub reads : bytes_in (begun core input n).trace ≡ []
  pub places : (heap : ℕ) → blocks_after heap [] (begun core input n).trace ≡ []

-- what an evaluation answers where the run stops; no run of a sound core stops by reading a pointer to a dead object
abbrev pub answer_of : Halt → Result End NoMemory
answer_of (halt.Exit code) = Ok (end.Exit code)
answer_of (halt.Trap kind line) = Ok (end.Trap kind line)
answer_of (halt.BadFree why holder) = Ok (end.BadFree why holder)
answer_of (halt.Escape func local line) = Ok (end.Escape func local line)
answer_of halt.Spent = Ok end.Spent
answer_of halt.Dangling = Err (record {})
answer_of halt.InputFault = Ok end.InputFault
answer_of halt.OutputFault = Ok end.OutputFault
answer_of halt.NoMemory = Err (record {})
