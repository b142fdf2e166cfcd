-- What holds of every queue, and of every check.
use Rattle.std.specs.Prelude.{◌≡◌, ◌+◌, ◌≤◌, ◌⊎◌, ◌∷◌, ◌++◌, [], ℕ, List, All, Contains, fold, length, slice_index}
use Rattle.std.specs.List.{sum_by}
use Rattle.byte_memory.specs.Bytes.{part}
use Rattle.hs_base.specs.Place.{Block, without_block}
use Rattle.heap_blocks.specs.Bytes.{ChangesOnly}
use Rattle.heap_blocks.specs.Heads.{header_at}
use Rattle.heap_blocks.specs.Held.{HasHeaders, HeapModel, Holds, address_of}
use Rattle.delay_scopes.specs.Queue.{HasQueue, KeepsQueue, ScopesModel, header_of}
use Rattle.delay_scopes.specs.Pointers.{into_granule}
use Rattle.delay_scopes.specs.Check.{ChangesWithin, births_of, granules_of, left_to}

-- the queue is kept where bytes of an object behind its header change
abbrev pub QueueIsKeptWithin : Type 0
QueueIsKeptWithin =
    (scopes : ScopesModel) (heap : HeapModel) (before after : List ℕ) (held : List Block) (queue : List ℕ) (b : Block)
    (addr n : ℕ) → KeepsQueue scopes heap before held queue → Contains held b → ChangesOnly before after addr n →
    address_of heap b.place ≤ addr → addr + n ≤ heap.base + b.place + b.length →
    KeepsQueue scopes heap after held queue

-- and where bytes beside the heap do
abbrev pub QueueIsKeptBeside : Type 0
QueueIsKeptBeside =
    (scopes : ScopesModel) (heap : HeapModel) (before after : List ℕ) (held : List Block) (queue : List ℕ) (addr n : ℕ) →
    KeepsQueue scopes heap before held queue → ChangesOnly before after addr n →
    (addr + n ≤ heap.base) ⊎ (heap.base + heap.len ≤ addr) → KeepsQueue scopes heap after held queue

-- and where a block is placed
abbrev pub QueueIsKeptPlacing : Type 0
QueueIsKeptPlacing =
    (scopes : ScopesModel) (heap heap' : HeapModel) (before after : List ℕ) (held : List Block) (queue : List ℕ)
    (b : Block) → KeepsQueue scopes heap before held queue → heap'.base ≡ heap.base → Holds heap' (held ++ b ∷ []) →
    HasHeaders heap'.base after (held ++ b ∷ []) → ChangesOnly before after (heap.base + b.place) b.length →
    KeepsQueue scopes heap' after (held ++ b ∷ []) queue

-- a queue stays where the headers of its objects do, while other blocks may be held
abbrev pub QueueStays : Type 0
QueueStays =
    (scopes : ScopesModel) (base : ℕ) (before after : List ℕ) (held held' : List Block) (queue : List ℕ) →
    HasQueue scopes base before held queue → All (λ addr. header_of after addr ≡ header_of before addr) queue →
    ((b : Block) → Contains held b → Contains held' b) → HasQueue scopes base after held' queue

-- says so where the bytes in the blocks of a queue may have changed
abbrev pub WhereBlocksChange : (HeapModel → List ℕ → List ℕ → List Block → List ℕ → Type 0) → Type 0
WhereBlocksChange says =
    (scopes : ScopesModel) (heap : HeapModel) (before after : List ℕ) (held : List Block) (queue : List ℕ) →
    KeepsQueue scopes heap before held queue → heap.base + heap.len ≤ length before → ChangesWithin queue before after →
    says heap before after held queue

-- the bytes of each block that is left are the same
abbrev pub LeftBlocksStay : Type 0
LeftBlocksStay =
    WhereBlocksChange (λ heap before after held queue.
    (b : Block) (from k : ℕ) → Contains (fold without_block held (births_of before queue)) b →
    heap.base + b.place ≤ from → from + k ≤ heap.base + b.place + b.length → part after from k ≡ part before from k)

-- and so is its header
abbrev pub LeftHeadersStay : Type 0
LeftHeadersStay =
    WhereBlocksChange (λ heap before after held queue.
    (b : Block) → Contains (fold without_block held (births_of before queue)) b →
    header_at after (heap.base + b.place) ≡ header_at before (heap.base + b.place))

-- and so are the bytes beside the heap
abbrev pub BytesBesideStay : Type 0
BytesBesideStay =
    WhereBlocksChange (λ heap before after held queue.
    (from k : ℕ) → (from + k ≤ heap.base) ⊎ (heap.base + heap.len ≤ from) → part after from k ≡ part before from k)

-- what is left to an object is the total of the counts of its block, less the words that are addresses in it
abbrev pub LeftIsDifference : Type 0
LeftIsDifference =
    (bytes counts words : List ℕ) (addr : ℕ) →
    ((granule : ℕ) → into_granule granule words ≤ slice_index counts granule) →
    left_to bytes counts words addr + sum_by (λ granule. into_granule granule words) (granules_of bytes addr)
    ≡ sum_by (slice_index counts) (granules_of bytes addr)
