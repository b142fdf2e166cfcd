-- The queue of freed objects. It lives in the headers of their blocks, and is seen as the list of the addresses of the objects.
use Rattle.std.specs.Prelude.{◌≡◌, ◌≢◌, ◌+◌, ◌-◌, ◌^◌, ◌<◌, ℕ, if◌then◌else◌, nat_eq, List, length, Option, All, AllPairs, Contains, slice_index}
use Rattle.hs_base.specs.Place.{Block}
use Rattle.heap_blocks.specs.declared.headers.Header.{Header}
use Rattle.heap_blocks.specs.Heads.{header_at}
use Rattle.heap_blocks.specs.Held.{HeapModel, Holds, HasHeaders}

-- how many scopes are open, the blocks of the first and of the last queued object, 0 for none, how many are queued, and the
-- object that was found held, if one was
pub record ScopesModel : Type 0 where
  pub depth : ℕ
  pub first : ℕ
  pub last : ℕ
  pub waiting : ℕ
  pub named : Option ℕ

-- the header of the object at an address
abbrev pub header_of : List ℕ → ℕ → Header
header_of bytes addr = header_at bytes (addr - 32)

-- the block of the object of that number in a queue, 0 behind the last
abbrev pub block_in : List ℕ → ℕ → ℕ
block_in queue k = slice_index queue k - 32

-- the address is the start of the object of a block that is held, in a heap from a base address on
pub record IsStart (base : ℕ) (held : List Block) (addr : ℕ) : Type 0 where
  pub block : Block
  pub contains : Contains held block
  pub address : addr ≡ base + block.place + 32

-- the object at an address is queued, by its header; its addresses have 4 bytes
pub record IsQueued (base : ℕ) (bytes : List ℕ) (held : List Block) (addr : ℕ) : Type 0 where
  pub start : IsStart base held addr
  pub state : (header_of bytes addr).state ≡ 2
  pub reach : addr + (header_of bytes addr).size < 2 ^ 32

-- the scopes have queued the objects at these addresses, in this order
pub record HasQueue (scopes : ScopesModel) (base : ℕ) (bytes : List ℕ) (held : List Block) (queue : List ℕ) : Type 0 where
  pub many : scopes.waiting ≡ length queue
  pub first : scopes.first ≡ block_in queue 0
  pub last : scopes.last ≡ block_in queue (length queue - 1)
  pub queued : All (IsQueued base bytes held) queue
  pub distinct : AllPairs (λ a b. a ≢ b) queue
  -- each header names the block of the object that was queued next
  pub linked : (k : ℕ) → k < length queue → (header_of bytes (slice_index queue k)).next ≡ block_in queue (k + 1)

-- the queue with one object more, in a block
abbrev pub appended : ScopesModel → ℕ → ScopesModel
appended scopes block =
    record scopes { first = if nat_eq scopes.waiting 0 then block else scopes.first; last = block; waiting = scopes.waiting + 1 }

-- the heap holds these blocks, the bytes have their headers, and the scopes have queued these objects of theirs
pub record KeepsQueue (scopes : ScopesModel) (heap : HeapModel) (bytes : List ℕ) (held : List Block) (queue : List ℕ) : Type 0 where
  pub holds : Holds heap held
  pub headers : HasHeaders heap.base bytes held
  pub queued : HasQueue scopes heap.base bytes held queue

abbrev pub KeepsSomeQueue : ScopesModel → HeapModel → List ℕ → Type 0
KeepsSomeQueue scopes heap bytes = (held : List Block) × (queue : List ℕ) × KeepsQueue scopes heap bytes held queue
