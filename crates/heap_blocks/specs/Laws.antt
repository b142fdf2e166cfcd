-- Laws of blocks that are held, and of their headers.
use Rattle.std.specs.Prelude.{◌≡◌, ◌≢◌, ◌+◌, ◌≤◌, ◌⊎◌, ℕ, List, [], ◌∷◌, ◌++◌, Contains, cond, nat_le, Some, None, slice_get, take}
use Rattle.byte_memory.specs.Bytes.{part}
use Rattle.hs_base.specs.Place.{Block, block_size, blocks_after, with_block, without_block}
use Rattle.hs_base.specs.Trace.{Event}
use Rattle.heap_blocks.specs.declared.headers.Header.{Header}
use Rattle.heap_blocks.specs.Bytes.{ChangesOnly}
use Rattle.heap_blocks.specs.Heads.{header_at}
use Rattle.heap_blocks.specs.Held.{HasAddress, HasHeaders, HaveOwnBirths, HeapModel, Holds, address_of, fit_of, owner_of}
use Rattle.heap_blocks.specs.Rows.{GivesNoneBack, StandInRow, row_length}

-- Rows

-- blocks that are placed from an empty heap on, with none given back, stand in a row from its start on
abbrev pub PlacedStandInRow : Type 0
PlacedStandInRow = (len : ℕ) (events : List Event) → GivesNoneBack events → StandInRow 0 (blocks_after len [] events)

-- the next block is placed behind a row, or nowhere where it ends past the heap
abbrev pub NextIsBehindRow : Type 0
NextIsBehindRow =
    (heap : HeapModel) (held : List Block) (size : ℕ) → Holds heap held → StandInRow 0 held →
    fit_of heap held size ≡ cond (nat_le (row_length held + block_size size) heap.len) (Some (row_length held)) None

-- with it they stand in a row again
abbrev pub RowGrows : Type 0
RowGrows =
    (heap : HeapModel) (held : List Block) (birth size : ℕ) → Holds heap held → StandInRow 0 held →
    StandInRow 0 (with_block held birth (block_size size) (fit_of heap held size))

-- the last block, given back, leaves the others as they were
abbrev pub LastIsGivenBack : Type 0
LastIsGivenBack =
    (held : List Block) (b : Block) → HaveOwnBirths (held ++ b ∷ []) → without_block (held ++ b ∷ []) b.birth ≡ held

-- the front of a row is a row
abbrev pub FrontIsRow : Type 0
FrontIsRow = (place : ℕ) (held more : List Block) → StandInRow place (held ++ more) → StandInRow place held

-- each block of a row stands where those before it end
abbrev pub PlacesAreSums : Type 0
PlacesAreSums =
    (held : List Block) (k : ℕ) (b : Block) → StandInRow 0 held → slice_get held k ≡ Some b →
    b.place ≡ row_length (take k held)

-- Bytes

-- what changes only some bytes changes only those of a range around them
abbrev pub ChangesWiden : Type 0
ChangesWiden =
    (before after : List ℕ) (x m addr n : ℕ) → ChangesOnly before after x m → addr ≤ x → x + m ≤ addr + n → ChangesOnly before after addr n

-- Headers

-- a header is the same where no byte of it changes
abbrev pub AHeaderStays : Type 0
AHeaderStays =
    (before after : List ℕ) (block addr n : ℕ) → ChangesOnly before after addr n → (block + 32 ≤ addr) ⊎ (addr + n ≤ block) → header_at after block ≡ header_at before block

-- it is what its bytes say
abbrev pub AHeaderIsItsBytes : Type 0
AHeaderIsItsBytes =
    (before after : List ℕ) (block : ℕ) → ((from k : ℕ) → block ≤ from → from + k ≤ block + 32 → part after from k ≡ part before from k) → header_at after block ≡ header_at before block

-- all headers stay where bytes beside the heap change
abbrev pub HeadersStayBeside : Type 0
HeadersStayBeside =
    (heap : HeapModel) (held : List Block) (before after : List ℕ) (addr n : ℕ) → Holds heap held → HasHeaders heap.base before held → ChangesOnly before after addr n → (addr + n ≤ heap.base) ⊎ (heap.base + heap.len ≤ addr) → HasHeaders heap.base after held

-- and where bytes of an object behind its header do
abbrev pub HeadersStayWithin : Type 0
HeadersStayWithin =
    (heap : HeapModel) (held : List Block) (b : Block) (before after : List ℕ) (addr n : ℕ) → Holds heap held → Contains held b → HasHeaders heap.base before held → ChangesOnly before after addr n → address_of heap b.place ≤ addr → addr + n ≤ heap.base + b.place + b.length → HasHeaders heap.base after held

-- the header of one block may be written again with its birth and its size
abbrev pub HeadersMayBeWritten : Type 0
HeadersMayBeWritten =
    (heap : HeapModel) (held : List Block) (b : Block) (before after : List ℕ) (h : Header) → Holds heap held → Contains held b → HasHeaders heap.base before held → ChangesOnly before after (heap.base + b.place) 32 → header_at after (heap.base + b.place) ≡ h → h.birth ≡ b.birth → block_size h.size ≡ b.length → HasHeaders heap.base after held

-- Blocks

-- a block is still held where one of another birth is given back
abbrev pub BlocksStayHeld : Type 0
BlocksStayHeld =
    (held : List Block) (b : Block) (birth : ℕ) → Contains held b → b.birth ≢ birth → Contains (without_block held birth) b

-- the owner of an address is the held block that has it
abbrev pub OwnersAreFound : Type 0
OwnersAreFound =
    (heap : HeapModel) (held : List Block) (b : Block) (addr : ℕ) → Holds heap held → Contains held b → HasAddress heap addr b → owner_of heap held addr ≡ Some (address_of heap b.place)
