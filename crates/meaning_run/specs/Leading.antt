-- What a statement leads to, as the evaluator's callers see it.
use Rattle.std.specs.Prelude.{◌≡◌, ◌+◌, ◌++◌, ℕ, List, [], ◌∷◌, Option, Some, Result, Ok, Err}
use Rattle.hs_base.specs.State.{State}
use Rattle.hs_base.specs.Trace.{Event, In, bytes_out, bytes_in}
use Rattle.hs_base.specs.Runs as runs
use Rattle.core_tree.specs.declared.statements.LibName.{LibName}
use Rattle.core_tree.specs.declared.statements.LibName.TheVariants as lib
use Rattle.core_tree.specs.declared.statements.StmKind.{StmKind}
use Rattle.core_tree.specs.declared.statements.StmKind.TheVariants as stm
use Rattle.object_meaning.specs.objects.Going.{Next}
use Rattle.meaning_state.specs.Fitting.{Held, held_after}
use Rattle.meaning_run.specs.declared.halt.Halt.{Halt}
use Rattle.meaning_run.specs.declared.halt.Halt.TheVariants as halt
use Rattle.meaning_run.specs.Ending.{Ends}

abbrev pub with_input : List ℕ → State → State
with_input left s = record s { input = left }

-- events that neither write nor read a byte
abbrev pub IsSilent : List Event → Type 0
IsSilent events = (bytes_out events ≡ []) × (bytes_in events ≡ [])

-- a statement that neither writes nor reads a byte ended the run; want of memory is free
abbrev pub StopsAlone : Next → Halt → Type 0
StopsAlone next halt.NoMemory = Unit {0}
StopsAlone (runs.Goes before events after) h = ⊥
StopsAlone (runs.Stops before events after ending) h = IsSilent events × Ends h ending

-- such a statement led to a new state, or ended the run
abbrev pub Alone : List ℕ → Next → State → Result Unit Halt → Type 0
Alone left next new (Err h) = StopsAlone next h
Alone left (runs.Goes before events after) new (Ok u) = IsSilent events × (after ≡ with_input left new)
Alone left (runs.Stops before events after ending) new (Ok u) = ⊥

abbrev pub events_of : Next → List Event
events_of (runs.Goes before events after) = events
events_of (runs.Stops before events after ending) = events

-- the blocks that are held behind a statement are those behind its events, where the run goes on
abbrev pub Placed : Next → Held → Held → Result Unit Halt → Type 0
Placed next before after (Err h) = Unit {0}
Placed next before after (Ok u) = after ≡ held_after before (events_of next)

-- a statement that neither writes nor reads a byte led to a new state and to these blocks, or ended the run
abbrev pub AlonePlaced : List ℕ → Next → State → Held → Held → Result Unit Halt → Type 0
AlonePlaced left next new before after result = Alone left next new result × Placed next before after result

-- the run has ended in any way
abbrev pub StopsSo : Next → Halt → Type 0
StopsSo next halt.NoMemory = Unit {0}
StopsSo next halt.InputFault = Unit {0}
StopsSo next halt.OutputFault = Unit {0}
StopsSo (runs.Goes before events after) h = ⊥
StopsSo (runs.Stops before events after ending) h = Ends h ending

-- a statement led to a new state, or ended the run; nothing is said of bytes
abbrev pub Moves : Next → State → Result Unit Halt → Type 0
Moves next new (Err h) = StopsSo next h
Moves (runs.Goes before events after) new (Ok u) = after ≡ with_input after.input new
Moves (runs.Stops before events after ending) new (Ok u) = ⊥

-- a statement that asks for a byte
abbrev pub AsksByte : Next → Type 0
AsksByte (runs.Goes before (In byte ∷ events) after) = Unit {0}
AsksByte _ = ⊥

-- a first part of the bytes of a statement was written, and no byte was read
pub record PutsPart (next : Next) (taken : List ℕ) (taken' : Option (List ℕ)) : Type 0 where
  pub put : List Event
  pub rest : List Event
  pub events : events_of next ≡ put ++ rest
  pub reads : bytes_in put ≡ []
  pub is_taken : taken' ≡ Some (taken ++ bytes_out put)

-- where the run ended, with these bytes left and these taken before
abbrev pub SeenEnd : Next → List ℕ → List ℕ → Halt → Option (List ℕ) → Option (List ℕ) → Type 0
SeenEnd next left taken halt.NoMemory left' taken' = (left' ≡ Some left) × (taken' ≡ Some taken)
SeenEnd next left taken halt.InputFault left' taken' = AsksByte next × (left' ≡ Some left) × (taken' ≡ Some taken)
SeenEnd next left taken halt.OutputFault left' taken' = PutsPart next taken taken' × (left' ≡ Some left)
SeenEnd (runs.Goes before events after) left taken h left' taken' = ⊥
SeenEnd (runs.Stops before events after ending) left taken h left' taken' =
    Ends h ending × (bytes_in events ≡ []) × (left' ≡ Some left) × (taken' ≡ Some (taken ++ bytes_out events))

-- a statement led to a new state, or ended the run, with these bytes left and these taken before
abbrev pub Seen : Next → List ℕ → List ℕ → Result Unit Halt → State → Option (List ℕ) → Option (List ℕ) → Type 0
Seen next left taken (Err h) new left' taken' = SeenEnd next left taken h left' taken'
Seen (runs.Goes before events after) left taken (Ok u) new left' taken' =
    (bytes_in events ++ after.input ≡ left) × (left' ≡ Some after.input) × (taken' ≡ Some (taken ++ bytes_out events)) × (after ≡ with_input after.input new)
Seen (runs.Stops before events after ending) left taken (Ok u) new left' taken' = ⊥

-- the counts of faults, of the input and of the output, before and after
abbrev pub Counted : Result Unit Halt → ℕ → ℕ → ℕ → ℕ → Type 0
Counted (Err halt.InputFault) i i' o o' = (i' ≡ i + 1) × (o' ≡ o)
Counted (Err halt.OutputFault) i i' o o' = (i' ≡ i) × (o' ≡ o + 1)
Counted _ i i' o o' = (i' ≡ i) × (o' ≡ o)

-- built-in functions that neither write nor read a byte
abbrev pub IsAloneLib : LibName → Type 0
IsAloneLib lib.Getchar = ⊥
IsAloneLib lib.Putchar = ⊥
IsAloneLib lib.Puts = ⊥
IsAloneLib _ = Unit {0}

-- statements by what they do: to numbers and pointers
abbrev pub IsValues : StmKind → Type 0
IsValues (stm.Set r a) = Unit {0}
IsValues (stm.Conv k r a) = Unit {0}
IsValues (stm.Un op k r a) = Unit {0}
IsValues (stm.Bin op k r a b) = Unit {0}
IsValues (stm.Cmp op r a b) = Unit {0}
IsValues (stm.Add r p a s) = Unit {0}
IsValues (stm.Sub r p a s) = Unit {0}
IsValues (stm.Off r p c) = Unit {0}
IsValues (stm.Diff r p q s) = Unit {0}
IsValues (stm.Pcmp op r p q) = Unit {0}
IsValues (stm.Test r p) = Unit {0}
IsValues _ = ⊥

-- to bytes and pointers in objects
abbrev pub IsMemory : StmKind → Type 0
IsMemory (stm.Load k r p) = Unit {0}
IsMemory (stm.Loadp r p) = Unit {0}
IsMemory (stm.Store k p a) = Unit {0}
IsMemory (stm.Storep p q) = Unit {0}
IsMemory (stm.Copy p q n) = Unit {0}
IsMemory (stm.Clear p n) = Unit {0}
IsMemory _ = ⊥

-- to the heap and to scopes
abbrev pub IsHeap : StmKind → Type 0
IsHeap (stm.Malloc r n t) = Unit {0}
IsHeap (stm.Calloc r m n t) = Unit {0}
IsHeap (stm.Realloc r p n t) = Unit {0}
IsHeap (stm.Free p) = Unit {0}
IsHeap stm.Enter = Unit {0}
IsHeap stm.Leave = Unit {0}
IsHeap _ = ⊥

-- to the running point and the frames
abbrev pub IsJump : StmKind → Type 0
IsJump (stm.Jump l) = Unit {0}
IsJump (stm.Zero a l) = Unit {0}
IsJump (stm.Case a v l) = Unit {0}
IsJump (stm.Loop l) = Unit {0}
IsJump (stm.Call f r args) = Unit {0}
IsJump (stm.Return a) = Unit {0}
IsJump _ = ⊥
