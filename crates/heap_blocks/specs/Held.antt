-- Which blocks a heap holds.
use Rattle.std.specs.Prelude.{◌≡◌, ◌≢◌, ℕ, ◌+◌, ◌-◌, ◌*◌, ◌/◌, ◌%◌, ◌^◌, ◌<◌, ◌≤◌, ◌⊎◌, Bool, true, false, cond, ◌&&◌, nat_lt, nat_le, List, [], ◌∷◌, ◌++◌, length, All, AllPairs, Contains, find, Option, Some, option_map, map, slice_get, replicate}
use Rattle.hs_base.specs.Place.{Block, block_size, first_fit, rounded_up}
use Rattle.byte_memory.specs.Bytes.{word, part}
use Rattle.heap_blocks.specs.declared.headers.Header.{Header}
use Rattle.heap_blocks.specs.declared.marks.Mark.{Mark}
use Rattle.heap_blocks.specs.declared.marks.Mark.TheVariants.{Free, Of}
use Rattle.heap_blocks.specs.Bytes.{ChangesOnly}
use Rattle.heap_blocks.specs.Heads.{header_at}

-- a heap of so many bytes from a base address on, with a mark for each 16 bytes
pub record HeapModel : Type 0 where
  pub base : ℕ
  pub len : ℕ
  pub marks : List Mark

-- is the place one of the block's?
abbrev pub is_in : ℕ → Block → Bool
is_in place b = nat_le b.place place && nat_lt place (b.place + b.length)

-- the mark of a place where these blocks are held: its block, by the 16 bytes at which that starts
abbrev pub mark_of : List Block → ℕ → Mark
mark_of [] place = Free
mark_of (b ∷ held) place = cond (is_in place b) (Of (b.place / 16)) (mark_of held place)

-- a block that stands at a multiple of 16 within a heap
pub record IsBlock (len : ℕ) (b : Block) : Type 0 where
  pub aligned : b.place % 16 ≡ 0
  pub whole : b.length % 16 ≡ 0
  pub room : 48 ≤ b.length
  pub within : b.place + b.length ≤ len

abbrev pub AreApart : Block → Block → Type 0
AreApart a b = (a.place + a.length ≤ b.place) ⊎ (b.place + b.length ≤ a.place)

-- the heap holds exactly these blocks
pub record Holds (heap : HeapModel) (held : List Block) : Type 0 where
  pub marks : (n : ℕ) → n < length heap.marks → slice_get heap.marks n ≡ Some (mark_of held (n * 16))
  pub blocks : All (IsBlock heap.len) held
  pub apart : AllPairs AreApart held

-- no two blocks have one birth
abbrev pub HaveOwnBirths : List Block → Type 0
HaveOwnBirths held = AllPairs (λ (a b : Block). a.birth ≢ b.birth) held

-- the bytes have the header of a block of a heap at a base address: its birth, and the size that gives its length
pub record HasHeader (base : ℕ) (bytes : List ℕ) (b : Block) : Type 0 where
  pub birth : word bytes (base + b.place) 8 ≡ b.birth
  pub size : block_size (word bytes (base + b.place + 8) 4) ≡ b.length

-- the bytes have the headers of these blocks
abbrev pub HasHeaders : ℕ → List ℕ → List Block → Type 0
HasHeaders base bytes held = All (HasHeader base bytes) held

-- where first fit places a block for an object of that size
abbrev pub fit_of : HeapModel → List Block → ℕ → Option ℕ
fit_of heap held size = first_fit held heap.len (block_size size)

-- the address of the object of a block at a place
abbrev pub address_of : HeapModel → ℕ → ℕ
address_of heap place = heap.base + place + 32

-- does the block hold the byte at an address?
abbrev pub has_address : HeapModel → ℕ → Block → Bool
has_address heap addr b = nat_le (heap.base + b.place) addr && nat_lt addr (heap.base + b.place + b.length)

-- the address of the object whose block holds the byte at an address
abbrev pub owner_of : HeapModel → List Block → ℕ → Option ℕ
owner_of heap held addr = option_map (λ (b : Block). address_of heap b.place) (find (has_address heap addr) held)

-- the block, from its header on, has the byte at an address
abbrev pub HasAddress : HeapModel → ℕ → Block → Type 0
HasAddress heap addr b = (heap.base + b.place ≤ addr) × (addr < heap.base + b.place + b.length)

-- the block of an object of that size at an address lies within the heap
pub record IsWithin (heap : HeapModel) (size addr : ℕ) : Type 0 where
  pub start : heap.base + 32 ≤ addr
  pub end : addr + rounded_up (size + 1) ≤ heap.base + heap.len

-- what a placement does to the bytes of an object at an address, with its header and the length of its block
pub record IsPlaced (before after : List ℕ) (addr length : ℕ) (h : Header) : Type 0 where
  pub header : header_at after (addr - 32) ≡ h
  pub zero : part after addr h.size ≡ replicate h.size 0
  pub outside : ChangesOnly before after (addr - 32) length

-- the object at an address is that of a block that is held, and the bytes have the headers of all
pub record IsObject (heap : HeapModel) (bytes : List ℕ) (addr : ℕ) (held : List Block) (b : Block) : Type 0 where
  pub holds : Holds heap held
  pub headers : HasHeaders heap.base bytes held
  pub contains : Contains held b
  pub address : addr ≡ address_of heap b.place

abbrev pub IsHeldObject : HeapModel → List ℕ → ℕ → Type 0
IsHeldObject heap bytes addr = (held : List Block) × (b : Block) × IsObject heap bytes addr held b

-- the object at an address is that of a new block of that birth, for an object of that size, held behind these
abbrev pub IsNewObject : HeapModel → List ℕ → List Block → ℕ → ℕ → ℕ → Type 0
IsNewObject heap bytes held birth size addr =
    (place : ℕ) × (let b : Block = record { birth = birth; place = place; length = block_size size } in IsObject heap bytes addr (held ++ b ∷ []) b)

-- the heap has this base and this length
abbrev pub HasBounds : ℕ → ℕ → HeapModel → Type 0
HasBounds base len heap = (heap.base ≡ base) × (heap.len ≡ len)

-- what every heap is like
pub record IsHeap (base len : ℕ) (marks : List Mark) : Type 0 where
  pub aligned : base % 16 ≡ 0
  pub reach : base + len < 2 ^ 32
  pub long : length marks ≡ len / 16
  pub starts : (n start : ℕ) → slice_get marks n ≡ Some (Of start) → start * 16 + 48 ≤ len

-- does the mark name a block?
abbrev pub is_used : Mark → Bool
is_used Free = false
is_used (Of start) = true

-- a heap beside whose marks stand holes: those of its 16 bytes are taken that a block has
pub record IsHeapWithHoles (base len : ℕ) (marks : List Mark) (holes : List Bool) : Type 0 where
  pub shape : IsHeap base len marks
  pub same : holes ≡ map is_used marks
