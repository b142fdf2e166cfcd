-- Where objects stand, and which object owns an address.
use Rattle.std.proofs.Common.{◌≡◌, ◌<◌, ◌≤◌, ◌+◌, ◌-◌, ◌∙◌, ℕ, List, length, Option, Some, sym, ap, subst, arith}
use Rattle.std.proofs.lemmas.List.Elements.{All-contains}
use Rattle.hs_base.specs.declared.values.Pointer.TheVariants as pointer
use Rattle.hs_base.specs.Object.{Object, object_at}
use Rattle.hs_base.specs.Place.{Block}
use Rattle.heap_blocks.specs.Heads.{header_at}
use Rattle.heap_blocks.specs.Held.{HeapModel, Holds, IsBlock, address_of, owner_of}
use Rattle.flat_objects.specs.Memory.{Memory, Range, Statics, Locals, Heap, IsMemory, heap_of, range_of, end_of}
use Rattle.flat_objects.specs.Standing.{IsThere, IsAt}
use Rattle.flat_objects.specs.Keeping.{HasSlots, Keeps, KeepsAt, IsKept, blocks_of}
use Rattle.flat_objects.specs.declared.finding.Spot.{Spot}
use Rattle.flat_objects.specs.Reaching.{IsFound, IsSpot}
use Rattle.flat_objects.proofs.Blocks.{IsWithin, own_block, block_is_held, owner_is}

-- the range of an object
abbrev pub own_range : Memory → List Object → ℕ → HeapModel
own_range memory objects birth = heap_of memory (range_of (object_at objects birth).sort)

-- an object with its header in front, and one byte more, inside a range
pub record LiesIn (range : HeapModel) (place size : ℕ) : Type 0 where
  pub above : range.base + 32 ≤ place
  pub below : place + size < end_of range

pub range_inside : (locals heap : ℕ) (memory : Memory) → IsMemory locals heap memory → (range : Range) → end_of (heap_of memory range) ≤ length memory.bytes
range_inside locals heap memory shape Statics = omega (arith, shape.statics_end, shape.locals_end, shape.heap_end, shape.locals_from, shape.heap_from)
range_inside locals heap memory shape Locals = omega (arith, shape.statics_end, shape.locals_end, shape.heap_end, shape.locals_from, shape.heap_from)
range_inside locals heap memory shape Heap = shape.heap_end

module _ (memory : Memory) (places : ℕ → ℕ) (objects : List Object) (keeps : Keeps memory places objects) (birth : ℕ) (there : IsThere objects birth) where
  -- the block of an object is one of its range
  pub own_is_block : IsBlock (own_range memory objects birth).len (own_block memory places objects birth)
  own_is_block =
      let range = range_of (object_at objects birth).sort in
      All-contains (IsBlock (own_range memory objects birth).len) (blocks_of memory places objects range) (own_block memory places objects birth) (keeps.held range).blocks (block_is_held memory places objects birth there)

  pub own_lies : LiesIn (own_range memory objects birth) (places birth) (object_at objects birth).size
  own_lies =
      let stands = keeps.standing birth there in
      let block = own_is_block in
      record { above = stands.room; below = omega (arith, stands.room, block.within) }

  -- an address of the object has the object as its owner
  pub own_owner : (offset addr : ℕ) → IsAt places objects birth offset addr
      → owner_of (own_range memory objects birth) (blocks_of memory places objects (range_of (object_at objects birth).sort)) addr ≡ Some (places birth)
  own_owner offset addr at =
      let range = range_of (object_at objects birth).sort in
      let heap = own_range memory objects birth in
      let stands = keeps.standing birth there in
      let within : IsWithin heap addr (own_block memory places objects birth) = record { above = omega (arith, stands.room, at.address); below = omega (arith, stands.room, at.address, at.inside) } in
      let place : address_of heap (own_block memory places objects birth).place ≡ places birth = omega (arith, stands.room) in
      owner_is heap addr (blocks_of memory places objects range) (own_block memory places objects birth) (keeps.held range) (block_is_held memory places objects birth there) within ∙ ap Some place

  pub own_inside : (locals heap : ℕ) → IsMemory locals heap memory → places birth + (object_at objects birth).size < length memory.bytes
  own_inside locals heap shape =
      let lies = own_lies in
      let inside = range_inside locals heap memory shape (range_of (object_at objects birth).sort) in
      omega (arith, lies.below)

-- an object that an address is in
pub record Kept (memory : Memory) (addr : ℕ) : Type 0 where
  pub places : ℕ → ℕ
  pub objects : List Object
  pub birth : ℕ
  pub offset : ℕ
  pub keeps : Keeps memory places objects
  pub at : IsAt places objects birth offset addr

pub kept : (memory : Memory) (addr : ℕ) → IsKept memory addr → 0 < addr → Kept memory addr
kept memory addr (places, objects, pointer.Null, at) some = absurd (omega (arith, at.stands))
kept memory addr (places, objects, pointer.At birth offset, at) some =
    record { places = places; objects = objects; birth = birth; offset = offset; keeps = at.keeps; at = at.stands }

-- what an answer for the owner of an address of each range comes to
pub owned : (memory : Memory) (places : ℕ → ℕ) (objects : List Object) (birth offset addr : ℕ) (found : Option ℕ) → Keeps memory places objects → IsAt places objects birth offset addr
    → ((range : Range) (held : List Block) → (heap_of memory range).base ≤ addr → addr < end_of (heap_of memory range) → Holds (heap_of memory range) held → found ≡ owner_of (heap_of memory range) held addr)
    → found ≡ Some (places birth)
owned memory places objects birth offset addr found keeps at answer =
    let range = range_of (object_at objects birth).sort in
    let lies = own_lies memory places objects keeps birth at.there in
    answer range (blocks_of memory places objects range) (omega (arith, lies.above, at.address)) (omega (arith, lies.below, at.address, at.inside)) (keeps.held range)
    ∙ own_owner memory places objects keeps birth at.there offset addr at

pub spot_at : (memory : Memory) (places : ℕ → ℕ) (objects : List Object) (birth offset addr start size : ℕ) → KeepsAt memory places objects (pointer.At birth offset) addr → start ≡ places birth → size ≡ (header_at memory.bytes (start - 32)).size
    → IsSpot places objects birth offset (record { start = start; offset = addr - start; size = size })
spot_at memory places objects birth offset addr start size at start_is size_is =
    let stands = at.keeps.standing birth at.stands.there in
    record {
      start = start_is;
      distance = omega (arith, at.stands.address);
      size = size_is ∙ ap (λ n. (header_at memory.bytes (n - 32)).size) start_is ∙ stands.header.size;
    }

pub found_at : (memory : Memory) (places : ℕ → ℕ) (objects : List Object) (birth offset addr layout : ℕ) (spot : Spot) → KeepsAt memory places objects (pointer.At birth offset) addr → IsSpot places objects birth offset spot → layout ≡ (header_at memory.bytes (spot.start - 32)).layout
    → IsFound memory places objects birth offset (record { start = spot.start; offset = spot.offset; size = spot.size; layout = layout })
found_at memory places objects birth offset addr layout spot at is layout_is =
    let stands = at.keeps.standing birth at.stands.there in
    let layout_same : layout ≡ (header_at memory.bytes (places birth - 32)).layout = layout_is ∙ ap (λ n. (header_at memory.bytes (n - 32)).layout) is.start in
    record {
      start = is.start;
      distance = is.distance;
      size = is.size;
      slots = subst (λ l. HasSlots memory.forms l (object_at objects birth)) (sym layout_same) stands.slots;
    }
