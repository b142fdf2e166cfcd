-- Which objects a memory keeps.
use Rattle.std.specs.Prelude.{◌≡◌, ◌+◌, ◌-◌, ◌<◌, ◌≤◌, ◌&&◌, ℕ, Bool, false, not, List, length, map, filter, Some, slice_get, slice_index, slice_index_or}
use Rattle.std.specs.List.{enumerate_from}
use Rattle.hs_base.specs.declared.values.Pointer.{Pointer}
use Rattle.hs_base.specs.declared.values.Pointer.TheVariants as pointer
use Rattle.hs_base.specs.declared.values.Pointer.TheVariants.{Null}
use Rattle.hs_base.specs.Access.{touches_slot}
use Rattle.byte_memory.specs.Bytes.{word}
use Rattle.hs_base.specs.Object as object
use Rattle.hs_base.specs.Object.{Object, Sort, Standing, Live, Queued, Dead, is_dead, object_at}
use Rattle.hs_base.specs.Place.{Block, block_size}
use Rattle.adjusters.specs.ObjectSlots.{Element, object_slots}
use Rattle.heap_blocks.specs.declared.headers.Header.{Header}
use Rattle.heap_blocks.specs.Heads.{header_at}
use Rattle.heap_blocks.specs.Held.{Holds}
use Rattle.byte_marks.specs.Marks.{IsMarked}
use Rattle.flat_objects.specs.Memory.{Memory, Range, heap_of, is_of, range_of}
use Rattle.flat_objects.specs.Standing.{IsThere, IsAddressOf}

-- Blocks

-- the block of an object, in a range from a base address on: a header of 32 bytes stands in front of the object
abbrev pub block_of : (ℕ → ℕ) → ℕ → ℕ × Object → Block
block_of places base one =
    record { birth = one.0; place = places one.0 - (base + 32); length = block_size one.1.size }

-- does the object stand in the range?
abbrev pub stands_in : Range → ℕ × Object → Bool
stands_in range one = is_of range one.1.sort && not (is_dead one.1.standing)

-- the blocks of the objects of a range that are not dead, in the order of birth
abbrev pub blocks_of : Memory → (ℕ → ℕ) → List Object → Range → List Block
blocks_of memory places objects range =
    map (block_of places (heap_of memory range).base) (filter (stands_in range) (enumerate_from 0 objects))

-- Headers

-- a heap object has its line of birth
abbrev pub IsLineOf : Sort → ℕ → Type 0
IsLineOf (object.Static index) line = Unit {0}
IsLineOf (object.Local func index) line = Unit {0}
IsLineOf (object.Heap born) line = line ≡ born

-- 1 for a live object; 2 for a queued one, with the line of its free
abbrev pub IsStateOf : Standing → Header → Type 0
IsStateOf Live header = header.state ≡ 1
IsStateOf (Queued line) header = (header.state ≡ 2) × (header.freed ≡ line)
IsStateOf Dead header = ⊥

pub record IsHeaderOf (header : Header) (birth : ℕ) (o : Object) : Type 0 where
  pub born : header.birth ≡ birth
  pub size : header.size ≡ o.size
  pub line : IsLineOf o.sort header.line
  pub state : IsStateOf o.standing header

-- the object has the slots of its elements, which have this number
abbrev pub HasSlots : List Element → ℕ → Object → Type 0
HasSlots forms layout o = (form : Element) × (slice_get forms layout ≡ Some form) × (o.slots ≡ object_slots form o.size)

-- Objects

-- the object of a birth stands at an address of its range
pub record StandsAt (memory : Memory) (places : ℕ → ℕ) (objects : List Object) (birth addr : ℕ) (o : Object) : Type 0 where
  -- there is room for its header in front
  pub room : (heap_of memory (range_of o.sort)).base + 32 ≤ addr
  pub header : IsHeaderOf (header_at memory.bytes (addr - 32)) birth o
  pub slots : HasSlots memory.forms (header_at memory.bytes (addr - 32)).layout o
  -- each byte outside the slots is the object's
  pub long : length o.bytes ≡ o.size
  pub bytes : (k : ℕ) → k < o.size → touches_slot o.slots k 1 ≡ false → slice_index memory.bytes (addr + k) ≡ slice_index o.bytes k
  -- the address in each slot stands for its pointer
  pub many : length o.pointers ≡ length o.slots
  pub pointers : (k : ℕ) → k < length o.slots → IsAddressOf places objects (slice_index_or o.pointers k Null) (word memory.bytes (addr + slice_index o.slots k) 4)
  -- its bytes have their marks, and its end stands beside them
  pub marks : IsMarked memory.marks addr o.size o.slots

-- the memory keeps these objects at these places
pub record Keeps (memory : Memory) (places : ℕ → ℕ) (objects : List Object) : Type 0 where
  -- each range holds the blocks of its objects that are not dead, and no other
  pub held : (range : Range) → Holds (heap_of memory range) (blocks_of memory places objects range)
  -- each object that is not dead stands at its place
  pub standing : (birth : ℕ) → IsThere objects birth → StandsAt memory places objects birth (places birth) (object_at objects birth)

-- it keeps them, and an address stands for a pointer
pub record KeepsAt (memory : Memory) (places : ℕ → ℕ) (objects : List Object) (p : Pointer) (addr : ℕ) : Type 0 where
  pub keeps : Keeps memory places objects
  pub stands : IsAddressOf places objects p addr

-- an address stands for some pointer into some objects that the memory keeps
abbrev pub IsKept : Memory → ℕ → Type 0
IsKept memory addr =
    (places : ℕ → ℕ) × (objects : List Object) × (p : Pointer) × KeepsAt memory places objects p addr

-- Whatever is kept

-- a fact of all places and objects that a memory keeps
abbrev pub ForKept : Memory → ((ℕ → ℕ) → List Object → Type 0) → Type 0
ForKept memory P = (places : ℕ → ℕ) (objects : List Object) → Keeps memory places objects → P places objects

-- whatever a memory keeps, another one keeps at the same places
abbrev pub StillKeeps : Memory → Memory → Type 0
StillKeeps old new = ForKept old (λ places objects. Keeps new places objects)

-- a fact of each pointer that an address stands for
abbrev pub ForPointer : Memory → ℕ → ((ℕ → ℕ) → List Object → Pointer → Type 0) → Type 0
ForPointer memory addr P =
    (places : ℕ → ℕ) (objects : List Object) (p : Pointer) → KeepsAt memory places objects p addr → P places objects p

-- a fact of each two pointers that two addresses stand for
abbrev pub ForPointers : Memory → ℕ → ℕ → ((ℕ → ℕ) → List Object → Pointer → Pointer → Type 0) → Type 0
ForPointers memory one other P =
    (places : ℕ → ℕ) (objects : List Object) (p q : Pointer) → KeepsAt memory places objects p one → IsAddressOf places objects q other → P places objects p q

-- a fact of the object of a birth and of the offset in it to which an address leads
abbrev pub ForTarget : Memory → ℕ → ((ℕ → ℕ) → List Object → ℕ → ℕ → Type 0) → Type 0
ForTarget memory addr P =
    (places : ℕ → ℕ) (objects : List Object) (birth offset : ℕ) → KeepsAt memory places objects (pointer.At birth offset) addr → P places objects birth offset

-- a fact of two objects whose first bytes stand at two addresses
abbrev pub ForStarts : Memory → ℕ → ℕ → ((ℕ → ℕ) → List Object → ℕ → ℕ → Type 0) → Type 0
ForStarts memory one other P =
    (places : ℕ → ℕ) (objects : List Object) (first second : ℕ) → KeepsAt memory places objects (pointer.At first 0) one → IsAddressOf places objects (pointer.At second 0) other → P places objects first second
