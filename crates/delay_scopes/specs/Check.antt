-- The check at the end of the outermost scope: the pointers inside the queued objects are taken off the counts, and then the first
-- queued object is bad to whose block a count is left.
use Rattle.std.specs.Prelude.{◌≡◌, ◌+◌, ◌-◌, ◌*◌, ◌/◌, ◌<◌, ◌≤◌, ℕ, not, nat_eq, List, map, length, fold, Option, Some, None, Result, Ok, Err, All, slice_index}
use Rattle.std.specs.List.{sum_by, range_with_len}
use Rattle.hs_base.specs.declared.ends.BadFree.{BadFree}
use Rattle.hs_base.specs.declared.ends.Reason.TheVariants.{Held}
use Rattle.byte_memory.specs.Bytes.{part}
use Rattle.hs_base.specs.Freeing.{first_held}
use Rattle.hs_base.specs.Place.{Block, block_size, without_block}
use Rattle.heap_blocks.specs.Held.{HeapModel, Holds, HasBounds, HasHeaders, HaveOwnBirths}
use Rattle.adjusters.specs.ObjectSlots.{Element}
use Rattle.count_table.specs.Table.{Table}
use Rattle.delay_scopes.specs.Queue.{ScopesModel, KeepsQueue, header_of}
use Rattle.delay_scopes.specs.Freed.{AreBeside}
use Rattle.delay_scopes.specs.Pointers.{into_granule, slots_of, words_inside}

-- What is asked

-- what the check stands on: the queue, the headers of its objects, and counts that cover the pointers inside them
pub record IsReady (scopes : ScopesModel) (heap : HeapModel) (bytes : List ℕ) (counts : Table) (forms : List Element) (held : List Block) (queue : List ℕ) : Type 0 where
  pub kept : KeepsQueue scopes heap bytes held queue
  pub births : HaveOwnBirths held
  pub inside : heap.base + heap.len ≤ length bytes
  pub granules : length bytes ≤ 16 * length counts.counts
  pub known : All (λ addr. (header_of bytes addr).layout < length forms) queue
  pub covered : (granule : ℕ) → into_granule granule (words_inside forms bytes queue) ≤ slice_index counts.counts granule

abbrev pub IsReadyForSome : ScopesModel → HeapModel → List ℕ → Table → List Element → Type 0
IsReadyForSome scopes heap bytes counts forms =
    (held : List Block) × (queue : List ℕ) × IsReady scopes heap bytes counts forms held queue

-- What is answered

-- the granules of the block of an object
abbrev pub granules_of : List ℕ → ℕ → List ℕ
granules_of bytes addr = range_with_len ((addr - 32) / 16) (block_size (header_of bytes addr).size / 16)

-- how many counted pointers lead into the block of an object, without those among these words
abbrev pub left_to : List ℕ → List ℕ → List ℕ → ℕ → ℕ
left_to bytes counts words addr = sum_by (λ granule. slice_index counts granule - into_granule granule words) (granules_of bytes addr)

-- the first queued object to which a counted pointer is left, beside those inside the queued objects
abbrev pub checked : List Element → List ℕ → List ℕ → List ℕ → Option ℕ
checked forms bytes counts queue =
    first_held (λ addr. not (nat_eq (left_to bytes counts (words_inside forms bytes queue) addr) 0)) queue

-- a held object is a bad free at the line of its own free
abbrev pub answer_of : List ℕ → Option ℕ → Result Unit BadFree
answer_of bytes None = Ok tt
answer_of bytes (Some addr) = Err (record { reason = Held; line = (header_of bytes addr).freed })

-- What is left

-- the births of the objects at these addresses
abbrev pub births_of : List ℕ → List ℕ → List ℕ
births_of bytes queue = map (λ addr. (header_of bytes addr).birth) queue

-- as many bytes as before, and those in no block of these objects are the same
pub record ChangesWithin (queue : List ℕ) (before after : List ℕ) : Type 0 where
  pub long : length after ≡ length before
  pub outside : (from k : ℕ) → All (λ addr. AreBeside from k (addr - 32) (block_size (header_of before addr).size)) queue → part after from k ≡ part before from k

-- the blocks of the queued objects were given back in the order of the queue, and no other byte has changed
pub record IsReleased (before after : HeapModel) (bytes bytes' : List ℕ) (held : List Block) (queue : List ℕ) : Type 0 where
  pub bounds : HasBounds before.base before.len after
  pub holds : Holds after (fold without_block held (births_of bytes queue))
  pub headers : HasHeaders after.base bytes' (fold without_block held (births_of bytes queue))
  pub births : HaveOwnBirths (fold without_block held (births_of bytes queue))
  pub changes : ChangesWithin queue bytes bytes'

-- the most steps that a check takes: for each queued object 16, 2 for each granule of its block and 4 for each of its slots
abbrev pub work_of : List Element → List ℕ → List ℕ → ℕ
work_of forms bytes queue =
    sum_by (λ addr. 16 + 2 * length (granules_of bytes addr) + 4 * length (slots_of forms bytes addr)) queue

-- no scope is open, and no object is queued
abbrev pub no_scopes : Option ℕ → ScopesModel
no_scopes named = record { depth = 0; first = 0; last = 0; waiting = 0; named = named }
