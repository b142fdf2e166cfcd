-- A memory of objects, and what every one is like.
use Rattle.std.specs.Prelude.{◌≡◌, ◌+◌, ◌-◌, ◌*◌, ◌/◌, ◌%◌, ◌^◌, ◌<◌, ◌≤◌, ℕ, Bool, true, false, List, length, slice_index, All}
use Rattle.c_types.specs.Layouts.{AreSlots}
use Rattle.hs_base.specs.Object as object
use Rattle.byte_marks.specs.declared.TheConstants.{NOTHING}
use Rattle.byte_marks.specs.Marks.{MarksModel}
use Rattle.adjusters.specs.ObjectSlots.{Element}
use Rattle.count_table.specs.Table.{Table}
use Rattle.delay_scopes.specs.Queue.{ScopesModel}
use Rattle.heap_blocks.specs.Held.{HeapModel, HasBounds}

-- its bytes, the three ranges of addresses in which objects stand, how many pointers count for each granule of 16 bytes, the open
-- scopes with the queue of freed objects, the elements of which objects are made, by number, and the marks of the bytes
pub record Memory : Type 0 where
  pub bytes : List ℕ
  pub statics : HeapModel
  pub locals : HeapModel
  pub heap : HeapModel
  pub counts : Table
  pub scopes : ScopesModel
  pub forms : List Element
  pub marks : MarksModel

-- a range for each sort of objects
pub data Range : Type 0 where
  Statics : Range
  Locals : Range
  Heap : Range

abbrev pub heap_of : Memory → Range → HeapModel
heap_of memory Statics = memory.statics
heap_of memory Locals = memory.locals
heap_of memory Heap = memory.heap

-- do objects of the sort stand in the range?
abbrev pub is_of : Range → object.Sort → Bool
is_of Statics (object.Static index) = true
is_of Locals (object.Local func index) = true
is_of Heap (object.Heap line) = true
is_of _ _ = false

abbrev pub range_of : object.Sort → Range
range_of (object.Static index) = Statics
range_of (object.Local func index) = Locals
range_of (object.Heap line) = Heap

abbrev pub end_of : HeapModel → ℕ
end_of range = range.base + range.len

-- how many pointers can be pinned at once: what is left of the sum of all counts beside a pointer for each 4 bytes
abbrev pub pin_room : Memory → ℕ
pin_room memory = memory.counts.most - length memory.bytes / 4

-- its slots are ascending multiples of 4 that each end inside it
pub record IsForm (form : Element) : Type 0 where
  pub slots : AreSlots 0 form.size form.slots

-- an object of a size at an address, and the byte behind its end, have marks; its addresses have 4 bytes
pub record IsMarkable (marks : MarksModel) (size addr : ℕ) : Type 0 where
  pub inside : addr + size < length marks.bytes
  pub granules : (addr + size) / 16 < length marks.ends
  pub fits : addr + size < 2 ^ 32

-- the ranges stand side by side within the bytes, those of locals and of the heap from these addresses on
pub record IsMemory (locals heap : ℕ) (memory : Memory) : Type 0 where
  pub locals_from : memory.locals.base ≡ locals
  pub heap_from : memory.heap.base ≡ heap
  pub statics_end : end_of memory.statics ≤ locals
  pub locals_end : end_of memory.locals ≤ heap
  pub heap_end : end_of memory.heap ≤ length memory.bytes
  pub reach : length memory.bytes < 2 ^ 32
  -- they begin at the start of a granule
  pub aligned : (range : Range) → (heap_of memory range).base % 16 ≡ 0
  -- there is a count for each granule, and room for a pointer in each 4 bytes
  pub granules : length memory.bytes < 16 * length memory.counts.counts
  pub room : length memory.bytes / 4 ≤ memory.counts.most
  pub forms : All IsForm memory.forms
  -- there is a mark for each byte and an end for each granule, and null is no byte of an object and has the end 0
  pub marked : length memory.bytes ≤ length memory.marks.bytes
  pub ends : length memory.bytes / 16 < length memory.marks.ends
  pub null : slice_index memory.marks.bytes 0 ≡ NOTHING
  pub null_end : slice_index memory.marks.ends 0 ≡ 0

-- the ranges have the bounds that they had, as many pointers can count, and the elements are the same
pub record SameFrame (before after : Memory) : Type 0 where
  pub statics : HasBounds before.statics.base before.statics.len after.statics
  pub locals : HasBounds before.locals.base before.locals.len after.locals
  pub heap : HasBounds before.heap.base before.heap.len after.heap
  pub long : length after.bytes ≡ length before.bytes
  pub most : after.counts.most ≡ before.counts.most
  pub forms : after.forms ≡ before.forms
