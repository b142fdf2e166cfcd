-- The first bytes and pointers of statics.
use Rattle.std.specs.Prelude.{◌≡◌, ◌≢◌, ◌+◌, ◌<◌, ◌≤◌, ℕ, List, length, map, All, AllPairs, Contains, replicate, slice_get, slice_index, unwrap_or}
use Rattle.hs_base.specs.declared.values.Pointer.TheVariants as pointer
use Rattle.hs_base.specs.Access.{overlaid, with_object, with_pointer}
use Rattle.hs_base.specs.Object.{Object, object_at}
use Rattle.heap_blocks.specs.Bytes.{ChangesOnly}
use Rattle.heap_blocks.specs.Held.{HasBounds}
use Rattle.object_meaning.specs.objects.Making.{first_pointer}
use Rattle.flat_objects.specs.Memory.{Memory}
use Rattle.flat_objects.specs.Standing.{IsThere}
use Rattle.flat_objects.specs.Keeping.{Keeps}
use Rattle.flat_objects.specs.Answering.{IsChanged}
use Rattle.flat_objects.specs.Counting.{Frees, Tracks}

-- bytes were written from an address on
pub record IsWritten (before after : List ℕ) (start : ℕ) (bytes : List ℕ) : Type 0 where
  pub changes : ChangesOnly before after start (length bytes)
  pub same : (k : ℕ) → k < length bytes → slice_index after (start + k) ≡ slice_index bytes k

-- the object with bytes from its start on
abbrev pub with_first_bytes : Object → List ℕ → Object
with_first_bytes o bytes = record o { bytes = overlaid o.bytes 0 bytes }

-- bytes fit an object whose bytes are 0 and whose pointers are null: they are no more than it has, and 0 in its slots
pub record FitsBlank (o : Object) (bytes : List ℕ) : Type 0 where
  pub blank : o.bytes ≡ replicate o.size 0
  pub null : All (λ p. p ≡ pointer.Null) o.pointers
  pub inside : length bytes ≤ o.size
  pub zeros : All (λ slot. (k : ℕ) → k < 4 → unwrap_or (slice_get bytes (slot + k)) 0 ≡ 0) o.slots

-- the object of a birth is kept at an address, and bytes fit it
pub record TakesBytes (memory : Memory) (places : ℕ → ℕ) (objects : List Object) (birth addr : ℕ) (bytes : List ℕ) : Type 0 where
  pub keeps : Keeps memory places objects
  pub there : IsThere objects birth
  pub address : addr ≡ places birth
  pub fits : FitsBlank (object_at objects birth) bytes

abbrev pub IsTaking : Memory → ℕ → List ℕ → Type 0
IsTaking memory addr bytes =
    (places : ℕ → ℕ) × (objects : List Object) × (birth : ℕ) × TakesBytes memory places objects birth addr bytes

-- Pointers

-- the static that a first pointer names stands at the start that is listed for it, and has the offset
pub record IsFirstTarget (places : ℕ → ℕ) (objects : List Object) (starts : List ℕ) (pointer : ℕ × ℕ × ℕ) : Type 0 where
  pub known : pointer.1 < length starts
  pub start : slice_index starts pointer.1 ≡ places pointer.1
  pub there : IsThere objects pointer.1
  pub inside : pointer.2 ≤ (object_at objects pointer.1).size

-- the object with the pointers at its slots from the list of those that are not null
abbrev pub with_first_pointers : Object → List (ℕ × ℕ × ℕ) → Object
with_first_pointers o pointers = record o { pointers = map (first_pointer pointers) o.slots }

-- the object of a birth is kept at an address, its pointers are null, and the first pointers stand at different slots of it
pub record TakesPointers (memory : Memory) (places : ℕ → ℕ) (objects : List Object) (birth addr : ℕ) (pointers : List (ℕ × ℕ × ℕ)) (starts : List ℕ) : Type 0 where
  pub keeps : Keeps memory places objects
  pub there : IsThere objects birth
  pub address : addr ≡ places birth
  pub null : All (λ p. p ≡ pointer.Null) (object_at objects birth).pointers
  pub slots : All (λ p. Contains (object_at objects birth).slots p.0) pointers
  pub distinct : AllPairs (λ a b. a.0 ≢ b.0) pointers
  pub targets : All (IsFirstTarget places objects starts) pointers

-- the same for some objects, whose counts the memory tracks
abbrev pub IsTakingPointers : Memory → ℕ → List (ℕ × ℕ × ℕ) → List ℕ → Type 0
IsTakingPointers memory addr pointers starts =
    (places : ℕ → ℕ) × (objects : List Object) × (birth : ℕ) × (frees : Frees) × TakesPointers memory places objects birth addr pointers starts × Tracks memory places objects frees

-- a slot of one object and an offset of another that is there
pub record HasSlotFor (memory : Memory) (places : ℕ → ℕ) (objects : List Object) (birth start slot target target_start offset : ℕ) : Type 0 where
  pub keeps : Keeps memory places objects
  pub there : IsThere objects birth
  pub starts : start ≡ places birth
  pub held : Contains (object_at objects birth).slots slot
  pub target_there : IsThere objects target
  pub target_starts : target_start ≡ places target
  pub inside : offset ≤ (object_at objects target).size

-- the same for some objects, whose counts the memory tracks
abbrev pub IsSlotFor : Memory → ℕ → ℕ → ℕ → ℕ → Type 0
IsSlotFor memory start slot target_start offset =
    (places : ℕ → ℕ) × (objects : List Object) × (birth : ℕ) × (target : ℕ) × (frees : Frees) × HasSlotFor memory places objects birth start slot target target_start offset × Tracks memory places objects frees

-- Whatever a memory keeps

-- an object takes its first bytes
abbrev pub StartsBytes : Memory → Memory → ℕ → List ℕ → Type 0
StartsBytes old new addr bytes =
    (places : ℕ → ℕ) (objects : List Object) (birth : ℕ) → TakesBytes old places objects birth addr bytes → IsChanged new places objects (with_object objects birth (with_first_bytes (object_at objects birth) bytes))

-- and the memory tracks the same frees
abbrev pub TracksBytes : Memory → Memory → ℕ → List ℕ → Type 0
TracksBytes old new addr bytes =
    (places : ℕ → ℕ) (objects : List Object) (birth : ℕ) (frees : Frees) → TakesBytes old places objects birth addr bytes → Tracks old places objects frees → Tracks new places (with_object objects birth (with_first_bytes (object_at objects birth) bytes)) frees

-- an object takes its first pointers
abbrev pub StartsPointers : Memory → Memory → ℕ → List (ℕ × ℕ × ℕ) → List ℕ → Type 0
StartsPointers old new addr pointers starts =
    (places : ℕ → ℕ) (objects : List Object) (birth : ℕ) → TakesPointers old places objects birth addr pointers starts → IsChanged new places objects (with_object objects birth (with_first_pointers (object_at objects birth) pointers))

-- and the memory tracks the same frees
abbrev pub TracksPointers : Memory → Memory → ℕ → List (ℕ × ℕ × ℕ) → List ℕ → Type 0
TracksPointers old new addr pointers starts =
    (places : ℕ → ℕ) (objects : List Object) (birth : ℕ) (frees : Frees) → TakesPointers old places objects birth addr pointers starts → Tracks old places objects frees → Tracks new places (with_object objects birth (with_first_pointers (object_at objects birth) pointers)) frees

-- a slot takes a pointer
abbrev pub SetsSlot : Memory → Memory → ℕ → ℕ → ℕ → ℕ → Type 0
SetsSlot old new start slot target offset =
    (places : ℕ → ℕ) (objects : List Object) (birth other : ℕ) → HasSlotFor old places objects birth start slot other target offset → IsChanged new places objects (with_object objects birth (with_pointer (object_at objects birth) slot (pointer.At other offset)))

-- and the memory tracks the same frees
abbrev pub TracksSlot : Memory → Memory → ℕ → ℕ → ℕ → ℕ → Type 0
TracksSlot old new start slot target offset =
    (places : ℕ → ℕ) (objects : List Object) (birth other : ℕ) (frees : Frees) → HasSlotFor old places objects birth start slot other target offset → Tracks old places objects frees → Tracks new places (with_object objects birth (with_pointer (object_at objects birth) slot (pointer.At other offset))) frees

-- The ranges of a new memory

-- they have these sizes and stand side by side
abbrev pub HasRanges : Memory → ℕ → ℕ → ℕ → Type 0
HasRanges memory statics locals heap =
    HasBounds 0 statics memory.statics × HasBounds statics locals memory.locals × HasBounds (statics + locals) heap memory.heap
