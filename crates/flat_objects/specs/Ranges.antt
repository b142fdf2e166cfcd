-- Copies and sets of ranges of bytes.
use Rattle.std.specs.Prelude.{◌≡◌, ◌+◌, ◌*◌, ◌≤◌, ℕ, List, Result, Ok, Err, min}
use Rattle.hs_base.specs.declared.ends.TrapKind.{TrapKind}
use Rattle.hs_base.specs.declared.values.Pointer.{Pointer}
use Rattle.hs_base.specs.declared.values.Pointer.TheVariants as pointer
use Rattle.hs_base.specs.Access.{Refusal, range_at}
use Rattle.hs_base.specs.Object.{Object, object_at}
use Rattle.object_meaning.specs.objects.Memory.{copied}
use Rattle.typed_copies.specs.declared.Ranged.{Ranged}
use Rattle.typed_copies.specs.Copying.{IsInside, IsRangeIn}
use Rattle.flat_objects.specs.Memory.{Memory}
use Rattle.flat_objects.specs.Keeping.{ForPointer, ForStarts, KeepsAt}
use Rattle.flat_objects.specs.Answering.{Changes, Traps}
use Rattle.flat_objects.specs.Counting.{Frees, MayStore, StaysTracked, Tracks}

-- Ranges

-- a range begins where a pointer leads to
pub record IsRangeAt (memory : Memory) (places : ℕ → ℕ) (objects : List Object) (p : Pointer) (range : Ranged) : Type 0 where
  pub lies : IsRangeIn memory.forms objects p range
  pub start : range.start ≡ places lies.birth

-- n bytes from a pointer on lie inside an object, or the code traps as the definition does
abbrev pub TriesRange : Memory → (ℕ → ℕ) → List Object → Pointer → ℕ → Result Ranged TrapKind → Type 0
TriesRange memory places objects p n (Ok range) =
    IsRangeAt memory places objects p range × (range.offset + n ≤ range.size)
TriesRange memory places objects p n (Err kind) = Traps kind (range_at objects p n)

-- Sets and copies

-- a memory keeps some objects and tracks what may be freed, and an address stands for a pointer
pub record MaySet (memory : Memory) (places : ℕ → ℕ) (objects : List Object) (frees : Frees) (p : Pointer) (addr : ℕ) : Type 0 where
  pub at : KeepsAt memory places objects p addr
  pub tracks : Tracks memory places objects frees

abbrev pub IsSettable : Memory → ℕ → Type 0
IsSettable memory addr =
    (places : ℕ → ℕ) × (objects : List Object) × (frees : Frees) × (p : Pointer) × MaySet memory places objects frees p addr

-- a memory keeps some objects and tracks what may be freed, and two addresses are those of the first bytes of objects
abbrev pub IsGrowable : Memory → ℕ → ℕ → Type 0
IsGrowable memory to from =
    (places : ℕ → ℕ) × (objects : List Object) × (frees : Frees) × (new : ℕ) × (old : ℕ) × MayStore memory places objects frees (pointer.At new 0) (pointer.At old 0) to from

-- how many first bytes both objects have
abbrev pub shared_size : List Object → ℕ → ℕ → ℕ
shared_size objects new old = min (object_at objects old).size (object_at objects new).size

-- the first bytes of one object are copied to another, as many as both have
abbrev pub grown : List Object → ℕ → ℕ → Result (List Object) Refusal
grown objects new old = copied objects (pointer.At new 0) (pointer.At old 0) (shared_size objects new old)

-- At addresses, whatever they stand for

-- a range begins where an address leads to
abbrev pub IsRangeOf : Memory → ℕ → Ranged → Type 0
IsRangeOf memory addr range = ForPointer memory addr (λ places objects p. IsRangeAt memory places objects p range)

-- n bytes from there on lie inside an object, or the code traps as the definition does
abbrev pub TriesRangeAt : Memory → ℕ → ℕ → Result Ranged TrapKind → Type 0
TriesRangeAt memory addr n result = ForPointer memory addr (λ places objects p. TriesRange memory places objects p n result)

-- n bytes of a range lie inside its object, which lies inside the memory
abbrev pub HasWithin : Memory → ℕ → Ranged → Type 0
HasWithin memory n range = IsInside memory.forms memory.bytes range × (range.offset + n ≤ range.size)

-- the first bytes of the object that starts at an address become those of another, or it traps as the definition does
abbrev pub GrowsAt : Memory → Memory → ℕ → ℕ → Result Unit TrapKind → Type 0
GrowsAt old new to from result =
    ForStarts old to from (λ places objects younger older. Changes places objects result old new (grown objects younger older))

-- the memory tracks the same frees behind that
abbrev pub TracksGrowth : Memory → Memory → ℕ → ℕ → Type 0
TracksGrowth old new to from =
    ForStarts old to from (λ places objects younger older. StaysTracked old new places objects (grown objects younger older))

-- it takes at most 22 steps, and three for each byte that both have, where so many were taken before and so many are behind it
abbrev pub GrowsWithin : Memory → ℕ → ℕ → ℕ → ℕ → Type 0
GrowsWithin memory to from before after =
    ForStarts memory to from (λ places objects younger older. after ≤ before + 22 + 3 * shared_size objects younger older)
