-- What a walk over the queue stands on.
use Rattle.std.specs.Prelude.{◌≡◌, ◌+◌, ◌-◌, ◌^◌, ◌<◌, ◌≤◌, ℕ, List, length, All, slice_index}
use Rattle.hs_base.specs.Place.{Block, block_size}
use Rattle.heap_blocks.specs.Held.{HeapModel, HaveOwnBirths}
use Rattle.adjusters.specs.ObjectSlots.{Element}
use Rattle.count_table.specs.Table.{Table}
use Rattle.delay_scopes.specs.Queue.{ScopesModel, KeepsQueue, block_in, header_of}
use Rattle.delay_scopes.specs.Pointers.{into_granule, words_in, words_inside}

-- the block of the object at an address lies inside the bytes
pub record IsInside (bytes : List ℕ) (addr : ℕ) : Type 0 where
  pub start : 32 ≤ addr
  pub inside : addr - 32 + block_size (header_of bytes addr).size ≤ length bytes
  pub reach : addr + (header_of bytes addr).size < 2 ^ 32

-- the headers lead from the first queued object over all of them
pub record IsChain (scopes : ScopesModel) (bytes : List ℕ) (queue : List ℕ) : Type 0 where
  pub many : scopes.waiting ≡ length queue
  pub first : scopes.first ≡ block_in queue 0
  pub linked : (k : ℕ) → k < length queue → (header_of bytes (slice_index queue k)).next ≡ block_in queue (k + 1)
  pub inside : All (IsInside bytes) queue

-- the words in the slots of an object may be taken off the counts
pub record IsCovered (bytes : List ℕ) (counts : Table) (forms : List Element) (addr : ℕ) : Type 0 where
  pub inside : IsInside bytes addr
  pub form : (header_of bytes addr).layout < length forms
  pub covered : (granule : ℕ) → into_granule granule (words_in forms bytes addr) ≤ slice_index counts.counts granule

-- the words in the slots of the queued objects may be taken off the counts
pub record AreCovered (scopes : ScopesModel) (bytes : List ℕ) (counts : Table) (forms : List Element) (queue : List ℕ) : Type 0 where
  pub chain : IsChain scopes bytes queue
  pub known : All (λ addr. (header_of bytes addr).layout < length forms) queue
  pub covered : (granule : ℕ) → into_granule granule (words_inside forms bytes queue) ≤ slice_index counts.counts granule

-- the blocks of the queued objects may be given back
pub record MayRelease (scopes : ScopesModel) (heap : HeapModel) (bytes : List ℕ) (held : List Block) (queue : List ℕ) : Type 0 where
  pub kept : KeepsQueue scopes heap bytes held queue
  pub births : HaveOwnBirths held
  pub inside : heap.base + heap.len ≤ length bytes
