-- What an access comes to.
use Rattle.std.specs.Prelude.{◌≡◌, ◌+◌, ◌%◌, ◌<◌, ◌≤◌, ℕ, List, Option, Result, Ok, Err}
use Rattle.hs_base.specs.declared.ends.TrapKind.{TrapKind}
use Rattle.hs_base.specs.declared.values.Pointer.{Pointer}
use Rattle.hs_base.specs.declared.values.Pointer.TheVariants as pointer
use Rattle.hs_base.specs.Access.{access_integer, access_pointer}
use Rattle.hs_base.specs.Object.{Object, object_at}
use Rattle.hs_base.specs.Place.{Block}
use Rattle.heap_blocks.specs.Held.{Holds, owner_of}
use Rattle.flat_objects.specs.declared.finding.Found.{Found}
use Rattle.flat_objects.specs.declared.finding.Spot.{Spot}
use Rattle.flat_objects.specs.Memory.{Memory, Range, heap_of, end_of}
use Rattle.flat_objects.specs.Keeping.{ForPointer, ForTarget, HasSlots}
use Rattle.flat_objects.specs.Answering.{Traps}

-- this is an offset in the object of a birth
pub record IsSpot (places : ℕ → ℕ) (objects : List Object) (birth offset : ℕ) (spot : Spot) : Type 0 where
  pub start : spot.start ≡ places birth
  pub distance : spot.offset ≡ offset
  pub size : spot.size ≡ (object_at objects birth).size

-- so it is, and the object has the slots of a layout
pub record IsFound (memory : Memory) (places : ℕ → ℕ) (objects : List Object) (birth offset : ℕ) (found : Found) : Type 0 where
  pub start : found.start ≡ places birth
  pub distance : found.offset ≡ offset
  pub size : found.size ≡ (object_at objects birth).size
  pub slots : HasSlots memory.forms found.layout (object_at objects birth)

-- so many bytes from a pointer on lie inside an object, at an offset that their number divides
pub record IsReached (memory : Memory) (places : ℕ → ℕ) (objects : List Object) (p : Pointer) (n : ℕ) (found : Found) : Type 0 where
  pub birth : ℕ
  pub target : p ≡ pointer.At birth found.offset
  pub finds : IsFound memory places objects birth found.offset found
  pub inside : found.offset + n ≤ found.size
  pub aligned : found.offset % n ≡ 0

-- an access to so many bytes traps, whatever the slots are
pub record IsBarred (objects : List Object) (p : Pointer) (n : ℕ) (kind : TrapKind) : Type 0 where
  pub integer : Traps kind (access_integer objects p n)
  pub pointer : n ≡ 4 → Traps kind (access_pointer objects p)

abbrev pub Reaches : Memory → (ℕ → ℕ) → List Object → Pointer → ℕ → Result Found TrapKind → Type 0
Reaches memory places objects p n (Ok found) = IsReached memory places objects p n found
Reaches memory places objects p n (Err kind) = IsBarred objects p n kind

-- At an address, whatever it stands for

-- this is the offset in the object
abbrev pub IsSpotAt : Memory → ℕ → Spot → Type 0
IsSpotAt memory addr spot = ForTarget memory addr (λ places objects birth offset. IsSpot places objects birth offset spot)

-- so it is, and the object has the slots of a layout
abbrev pub IsFoundAt : Memory → ℕ → Found → Type 0
IsFoundAt memory addr found = ForTarget memory addr (λ places objects birth offset. IsFound memory places objects birth offset found)

-- so many bytes are reached there, or the access traps
abbrev pub ReachesAt : Memory → ℕ → ℕ → Result Found TrapKind → Type 0
ReachesAt memory addr n result = ForPointer memory addr (λ places objects p. Reaches memory places objects p n result)

-- Owners

-- the start of the object whose block holds the byte at an address, in the range that the address lies in
abbrev pub IsOwner : Memory → ℕ → Option ℕ → Type 0
IsOwner memory addr start =
    (range : Range) (held : List Block) → (heap_of memory range).base ≤ addr → addr < end_of (heap_of memory range) → Holds (heap_of memory range) held → start ≡ owner_of (heap_of memory range) held addr

-- it is the owner in one of the ranges
abbrev pub IsOwnerInSome : Memory → ℕ → Option ℕ → Type 0
IsOwnerInSome memory addr start =
    (held : Range → List Block) → ((range : Range) → Holds (heap_of memory range) (held range)) → (range : Range) × (start ≡ owner_of (heap_of memory range) (held range) addr)
