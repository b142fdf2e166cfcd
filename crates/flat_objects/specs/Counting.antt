-- Which pointers count, and how many of them lead into each granule of 16 bytes.
use Rattle.std.specs.Prelude.{◌≡◌, ◌≢◌, ◌+◌, ◌-◌, ◌/◌, ◌<◌, ◌≤◌, ◌↔◌, ℕ, Bool, false, cond, nat_eq, IsTrue, List, [], ◌∷◌, ◌++◌, length, map, All, AllPairs, Contains, Result, Ok, slice_index}
use Rattle.std.specs.List.{count_by, flat_map}
use Rattle.hs_base.specs.declared.values.Pointer.{Pointer}
use Rattle.hs_base.specs.declared.values.Pointer.TheVariants as pointer
use Rattle.hs_base.specs.Access.{Refusal}
use Rattle.hs_base.specs.Freeing.{is_heap}
use Rattle.hs_base.specs.Object.{Object, is_dead, is_queued, object_at}
use Rattle.byte_memory.specs.Bytes.{put_word, word}
use Rattle.count_table.specs.Table.{Table, with_count}
use Rattle.delay_scopes.specs.Queue.{HasQueue}
use Rattle.flat_objects.specs.Memory.{Memory, Heap, pin_room}
use Rattle.flat_objects.specs.Standing.{IsThere, IsAddressOf}
use Rattle.flat_objects.specs.Keeping.{ForPointer, ForPointers, KeepsAt, blocks_of}

-- Pointers

-- the pointers inside an object, and none where it is dead
abbrev pub pointers_in : Object → List Pointer
pointers_in o = cond (is_dead o.standing) [] o.pointers

-- the pointers inside the objects that are not dead
abbrev pub living_pointers : List Object → List Pointer
living_pointers objects = flat_map pointers_in objects

-- the pointer is null, or leads into an object that is not dead, up to one past its end
abbrev pub LeadsSomewhere : List Object → Pointer → Type 0
LeadsSomewhere objects pointer.Null = Unit {0}
LeadsSomewhere objects (pointer.At birth offset) = IsThere objects birth × (offset ≤ (object_at objects birth).size)

-- Granules

-- does a pointer lead into the granule of a number?
abbrev pub leads_into : (ℕ → ℕ) → ℕ → Pointer → Bool
leads_into places granule pointer.Null = false
leads_into places granule (pointer.At birth offset) = nat_eq ((places birth + offset) / 16) granule

-- each granule's count is how many of these pointers lead into it
abbrev pub AreCounts : (ℕ → ℕ) → List Pointer → List ℕ → Type 0
AreCounts places pointers counts =
    (granule : ℕ) → granule < length counts → slice_index counts granule ≡ count_by (leads_into places granule) pointers

-- one more for the granule of an address; 0 is null, which leads into none
abbrev pub one_more : Table → ℕ → Table
one_more table addr = cond (nat_eq addr 0) table (with_count table (addr / 16) (slice_index table.counts (addr / 16) + 1))

abbrev pub one_less : Table → ℕ → Table
one_less table addr = cond (nat_eq addr 0) table (with_count table (addr / 16) (slice_index table.counts (addr / 16) - 1))

-- What is known of frees

-- what counts and waits beside the objects
pub record Frees : Type 0 where
  -- the pointers that count beside those inside objects
  pub pins : List Pointer
  -- the births of the queued objects, in the order of their frees
  pub queue : List ℕ
  -- how many scopes are open
  pub scopes : ℕ

-- a new memory: none count, none is queued, and no scope is open
abbrev pub no_frees : Frees
no_frees = record { pins = []; queue = []; scopes = 0 }

-- a queue has each object that is queued once, and no other; all are objects of the heap
pub record AreQueued (objects : List Object) (queue : List ℕ) : Type 0 where
  pub heap : All (λ birth. IsTrue (is_heap (object_at objects birth).sort)) queue
  pub exact : (birth : ℕ) → Contains queue birth ↔ IsTrue (is_queued (object_at objects birth).standing)
  pub distinct : AllPairs (λ a b. a ≢ b) queue

-- a memory that keeps these objects at these places tracks what may be freed
pub record Tracks (memory : Memory) (places : ℕ → ℕ) (objects : List Object) (frees : Frees) : Type 0 where
  -- it counts the pointers inside the objects and those that are pinned, for which there is room
  pub counts : AreCounts places (living_pointers objects ++ frees.pins) memory.counts.counts
  pub pinned : All (LeadsSomewhere objects) frees.pins
  pub few : length frees.pins ≤ pin_room memory
  -- its scopes have the queue
  pub queued : AreQueued objects frees.queue
  pub links : HasQueue memory.scopes memory.heap.base memory.bytes (blocks_of memory places objects Heap) (map places frees.queue)
  pub open_scopes : memory.scopes.depth ≡ frees.scopes

-- a memory that keeps these objects at these places has those of a queue queued, in their order, and so many scopes open, whatever it
-- counts
pub record HasScopes (memory : Memory) (places : ℕ → ℕ) (objects : List Object) (queue : List ℕ) (scopes : ℕ) : Type 0 where
  pub queued : AreQueued objects queue
  pub links : HasQueue memory.scopes memory.heap.base memory.bytes (blocks_of memory places objects Heap) (map places queue)
  pub open_scopes : memory.scopes.depth ≡ scopes

-- where a definition goes on, a memory tracks the same frees among its objects
abbrev pub StaysTracked : Memory → Memory → (ℕ → ℕ) → List Object → Result (List Object) Refusal → Type 0
StaysTracked old new places objects meant =
    (after : List Object) (frees : Frees) → meant ≡ Ok after → Tracks old places objects frees → Tracks new places after frees

-- a memory keeps some objects and tracks what may be freed, and one address stands for a pointer, and so does another
pub record MayStore (memory : Memory) (places : ℕ → ℕ) (objects : List Object) (frees : Frees) (p q : Pointer) (addr target : ℕ) : Type 0 where
  pub at : KeepsAt memory places objects p addr
  pub tracks : Tracks memory places objects frees
  pub stands : IsAddressOf places objects q target

abbrev pub IsStorable : Memory → ℕ → ℕ → Type 0
IsStorable memory addr target =
    (places : ℕ → ℕ) × (objects : List Object) × (frees : Frees) × (p : Pointer) × (q : Pointer) × MayStore memory places objects frees p q addr target

-- a pointer may be pinned: an address stands for it, and there is room for one more
pub record MayPin (memory : Memory) (places : ℕ → ℕ) (objects : List Object) (frees : Frees) (p : Pointer) (addr : ℕ) : Type 0 where
  pub at : KeepsAt memory places objects p addr
  pub tracks : Tracks memory places objects frees
  pub room : length frees.pins < pin_room memory

abbrev pub IsPinnable : Memory → ℕ → Type 0
IsPinnable memory addr =
    (places : ℕ → ℕ) × (objects : List Object) × (frees : Frees) × (p : Pointer) × MayPin memory places objects frees p addr

-- a pointer for which an address stands is one of those that are pinned, behind some and before others
pub record MayUnpin (memory : Memory) (places : ℕ → ℕ) (objects : List Object) (frees : Frees) (before behind : List Pointer) (p : Pointer) (addr : ℕ) : Type 0 where
  pub at : KeepsAt memory places objects p addr
  pub tracks : Tracks memory places objects frees
  pub held : frees.pins ≡ before ++ p ∷ behind

abbrev pub IsUnpinnable : Memory → ℕ → Type 0
IsUnpinnable memory addr =
    (places : ℕ → ℕ) × (objects : List Object) × (frees : Frees) × (before : List Pointer) × (behind : List Pointer) × (p : Pointer) × MayUnpin memory places objects frees before behind p addr

-- whatever pointer an address stands for, the memory tracks the same frees behind what a definition does with it
abbrev pub TracksAt : Memory → Memory → ℕ → (List Object → Pointer → Result (List Object) Refusal) → Type 0
TracksAt old new addr meant = ForPointer old addr (λ places objects p. StaysTracked old new places objects (meant objects p))

-- the same with a pointer that another address stands for
abbrev pub TracksWith : Memory → Memory → ℕ → ℕ → (List Object → Pointer → Pointer → Result (List Object) Refusal) → Type 0
TracksWith old new addr other meant =
    ForPointers old addr other (λ places objects p q. StaysTracked old new places objects (meant objects p q))

-- the pointer at an address is pinned, and stands anywhere among those that were
abbrev pub Pins : Memory → Memory → ℕ → Type 0
Pins old new addr =
    (places : ℕ → ℕ) (objects : List Object) (frees : Frees) (before behind : List Pointer) (p : Pointer) → MayPin old places objects frees p addr → frees.pins ≡ before ++ behind → Tracks new places objects (record frees { pins = before ++ p ∷ behind })

-- the pointer at an address is pinned no longer, wherever it stood among the others
abbrev pub Unpins : Memory → Memory → ℕ → Type 0
Unpins old new addr =
    (places : ℕ → ℕ) (objects : List Object) (frees : Frees) (before behind : List Pointer) (p : Pointer) → MayUnpin old places objects frees before behind p addr → Tracks new places objects (record frees { pins = before ++ behind })

-- Slots

-- the address in a slot
abbrev pub target_in : Memory → ℕ → ℕ
target_in memory slot = word memory.bytes slot 4

-- the count of the granule of an address
abbrev pub count_at : Memory → ℕ → ℕ
count_at memory addr = slice_index memory.counts.counts (addr / 16)

-- the counts without the pointer in a slot
abbrev pub counts_without : Memory → ℕ → Table
counts_without memory slot = one_less memory.counts (target_in memory slot)

-- the memory with an address in a slot, in place of the one that stood there, and with its counts
abbrev pub with_target : Memory → ℕ → ℕ → Memory
with_target memory slot target =
    record memory { bytes = put_word memory.bytes slot 4 target; counts = one_more (counts_without memory slot) target }
