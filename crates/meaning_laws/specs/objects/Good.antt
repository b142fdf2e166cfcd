-- What holds of the state of a run before each statement, and within one before the run moves on.
use Rattle.std.specs.Prelude.{◌≡◌, ◌<◌, ◌≤◌, ◌+◌, ℕ, Bool, true, false, List, [], ◌∷◌, length, get_or, Option, Some, slice_get}
use Rattle.hs_base.specs.declared.values.Pointer.{Pointer}
use Rattle.hs_base.specs.declared.values.Pointer.TheVariants as pointer
use Rattle.hs_base.specs.declared.values.Value.{Value}
use Rattle.hs_base.specs.Freeing.{is_heap}
use Rattle.hs_base.specs.Object.{Object, is_dead, is_queued, object_at}
use Rattle.hs_base.specs.State.{State, Frame}
use Rattle.core_tree.specs.declared.statements.Atom.{Atom}
use Rattle.core_tree.specs.declared.statements.Stm.{Stm}
use Rattle.core_tree.specs.declared.statements.StmKind.TheVariants as stm
use Rattle.core_tree.specs.declared.program.Func.{Func}
use Rattle.core_tree.specs.declared.program.Core.{Core}
use Rattle.core_tree.specs.Lives.{is_live}
use Rattle.core_tree.specs.Sound.{Opens}
use Rattle.object_meaning.specs.objects.Values.{is_stale, pointer_in}
use Rattle.object_meaning.specs.objects.Holding.{is_among, takes_answer}
use Rattle.meaning_laws.specs.objects.Dangling.{needed, register}

-- Objects

-- an object is not dead
abbrev pub Alive : List Object → ℕ → Type 0
Alive objects b = is_dead (object_at objects b).standing ≡ false

-- a pointer, each of some pointers, and what a value points to are not dead
abbrev pub IsFresh : List Object → Pointer → Type 0
IsFresh objects p = is_stale objects p ≡ false

abbrev pub AreFresh : List Object → List Pointer → Type 0
AreFresh objects ps = (k : ℕ) → IsFresh objects (get_or ps k pointer.Null)

abbrev pub HoldsFresh : List Object → Value → Type 0
HoldsFresh objects v = IsFresh objects (pointer_in v)

-- objects that are alive point to objects that are; the queued ones are on the heap, and are those of the queue
pub record Sane (objects : List Object) (queue : List ℕ) : Type 0 where
  pub slots : (b : ℕ) → Alive objects b → AreFresh objects (object_at objects b).pointers
  pub queued : (b : ℕ) → is_queued (object_at objects b).standing ≡ true → (is_among queue b ≡ true) × (is_heap (object_at objects b).sort ≡ true)
  pub in_queue : (b : ℕ) → is_among queue b ≡ true → is_queued (object_at objects b).standing ≡ true

-- an object is alive, and not on the heap
abbrev pub IsKept : List Object → ℕ → Type 0
IsKept objects b = Alive objects b × (is_heap (object_at objects b).sort ≡ false)

-- Frames

-- the memory locals of a frame are there
abbrev pub HasLocals : Func → List Object → Frame → Type 0
HasLocals func objects frame = (k : ℕ) → k < length func.mems → IsKept objects (frame.first_local + k)

-- a waiting frame is at a call, with so many scopes open; its locals are born before top
pub record WaitsAt (core : Core) (objects : List Object) (top depth : ℕ) (frame : Frame) : Type 0 where
  pub func : Func
  pub here : slice_get core.funcs frame.func ≡ Some func
  pub line : ℕ
  pub callee : ℕ
  pub answer : Option ℕ
  pub args : List Atom
  pub at : slice_get func.body frame.point ≡ Some (record { line = line; kind = stm.Call callee answer args })
  pub locals : HasLocals func objects frame
  pub below : frame.first_local + length func.mems ≤ top
  pub above : length core.statics ≤ frame.first_local
  pub fresh : (r : ℕ) → is_live func.body frame.point r ≡ true → takes_answer answer r ≡ false → HoldsFresh objects (register frame r)
  pub opens : Opens func.body frame.point depth

-- the waiting frames, from newest to oldest, with so many scopes open
abbrev pub Waits : Core → List Object → ℕ → ℕ → List Frame → Type 0
Waits core objects top total [] = total ≡ 0
Waits core objects top total (frame ∷ waiting) =
    (depth : ℕ) × (others : ℕ) × (total ≡ depth + others) × WaitsAt core objects top depth frame × Waits core objects frame.first_local others waiting

-- States

-- the running frame is at a point of a function with so many scopes open; the registers that are wanted there are fresh
pub record Holds (core : Core) (func : Func) (wanted : List Stm → ℕ → ℕ → Bool) (total : ℕ) (s : State) : Type 0 where
  pub here : slice_get core.funcs s.running.func ≡ Some func
  pub inside : s.running.point < length func.body
  pub sane : Sane s.objects s.queue
  pub statics : (k : ℕ) → k < length core.statics → IsKept s.objects k
  pub locals : HasLocals func s.objects s.running
  pub below : s.running.first_local + length func.mems ≤ length s.objects
  pub above : length core.statics ≤ s.running.first_local
  pub fresh : (r : ℕ) → wanted func.body s.running.point r ≡ true → HoldsFresh s.objects (register s.running r)
  pub depth : ℕ
  pub others : ℕ
  pub sum : total ≡ depth + others
  pub opens : Opens func.body s.running.point depth
  pub waits : Waits core s.objects s.running.first_local others s.waiting

-- before a statement
abbrev pub Good : Core → State → Type 0
Good core s = (func : Func) × Holds core func needed s.scopes s
