-- The steps at the end of memory locals: the pointers inside them are taken off the counts, the first is sought to which one is
-- left, and their blocks are given back one after another.
use Rattle.std.specs.Prelude.{◌≡◌, ◌+◌, ◌<◌, ◌≤◌, ℕ, Bool, not, nat_eq, List, length, take, ◌++◌, All, Option, Some, slice_get, slice_index}
use Rattle.std.specs.List.{position}
use Rattle.hs_base.specs.declared.values.Pointer.{Pointer}
use Rattle.hs_base.specs.Freeing.{ended, pointers_to}
use Rattle.hs_base.specs.Object.{Object, object_at}
use Rattle.adjusters.specs.ObjectSlots.{Element}
use Rattle.count_table.specs.Table.{Table}
use Rattle.heap_blocks.specs.Bytes.{ChangesOnly}
use Rattle.heap_blocks.specs.Held.{HasBounds, HasHeaders, Holds}
use Rattle.delay_scopes.specs.Pointers.{into_granule, words_inside}
use Rattle.delay_scopes.specs.Queue.{header_of}
use Rattle.delay_scopes.specs.Walks.{IsInside}
use Rattle.flat_objects.specs.Memory.{Memory, Range, Locals, heap_of}
use Rattle.flat_objects.specs.Standing.{IsThere}
use Rattle.flat_objects.specs.Keeping.{Keeps, StandsAt, blocks_of}
use Rattle.flat_objects.specs.Counting.{AreCounts, Frees, LeadsSomewhere, Tracks, living_pointers}
use Rattle.flat_objects.specs.Ending.{AreLocalsAt}

-- The counts

-- the words in the slots of the objects at these addresses may be taken off the counts
pub record AreCoveredAt (bytes : List ℕ) (counts : Table) (forms : List Element) (locals : List ℕ) : Type 0 where
  pub inside : All (IsInside bytes) locals
  pub known : All (λ addr. (header_of bytes addr).layout < length forms) locals
  pub covered : (granule : ℕ) → into_granule granule (words_inside forms bytes locals) ≤ slice_index counts.counts granule

-- a memory keeps and tracks objects of which some are memory locals at these addresses
pub record MayCheck (memory : Memory) (places : ℕ → ℕ) (objects : List Object) (frees : Frees) (births locals : List ℕ) : Type 0 where
  pub keeps : Keeps memory places objects
  pub tracks : Tracks memory places objects frees
  pub ending : AreLocalsAt places objects births locals

abbrev pub AreCheckable : Memory → List ℕ → Type 0
AreCheckable memory locals =
    (places : ℕ → ℕ) × (objects : List Object) × (frees : Frees) × (births : List ℕ) × MayCheck memory places objects frees births locals

-- the pointers that count beside those inside the ending locals
abbrev pub pointers_beside : List Object → Frees → List ℕ → List Pointer
pointers_beside objects frees births = living_pointers (ended objects births) ++ frees.pins

-- The blocks

-- some memory locals may be given back: no pointer inside another object leads to one
pub record MayGiveBack (memory : Memory) (places : ℕ → ℕ) (objects : List Object) (births locals : List ℕ) : Type 0 where
  pub keeps : Keeps memory places objects
  pub ending : AreLocalsAt places objects births locals
  pub left : All (LeadsSomewhere (ended objects births)) (living_pointers (ended objects births))

abbrev pub AreReturnable : Memory → List ℕ → Type 0
AreReturnable memory locals =
    (places : ℕ → ℕ) × (objects : List Object) × (births : List ℕ) × MayGiveBack memory places objects births locals

-- of these memory locals the first k were given back
pub record AreGivenBack (memory : Memory) (places : ℕ → ℕ) (objects : List Object) (births locals : List ℕ) (k : ℕ) : Type 0 where
  pub ending : AreLocalsAt places objects births locals
  -- there is room for the header of each in front
  pub room : All (λ addr. memory.locals.base + 32 ≤ addr) locals
  -- each range holds the blocks of its other objects
  pub held : (range : Range) → Holds (heap_of memory range) (blocks_of memory places (ended objects (take k births)) range)
  pub headers : HasHeaders memory.locals.base memory.bytes (blocks_of memory places (ended objects (take k births)) Locals)
  -- each object that stays when all end stands at its place
  pub standing : (birth : ℕ) → IsThere (ended objects births) birth → StandsAt memory places (ended objects births) birth (places birth) (object_at (ended objects births) birth)

-- the next of them stands at an address
abbrev pub IsNextLocal : Memory → ℕ → Type 0
IsNextLocal memory addr =
    (places : ℕ → ℕ) × (objects : List Object) × (births : List ℕ) × (locals : List ℕ) × (k : ℕ) × AreGivenBack memory places objects births locals k × (slice_get locals k ≡ Some addr)

-- only the range of memory locals and bytes in it changed
pub record ChangesLocals (before after : Memory) : Type 0 where
  pub others : after ≡ record before { locals = after.locals; bytes = after.bytes }
  pub bounds : HasBounds before.locals.base before.locals.len after.locals
  pub bytes : ChangesOnly before.bytes after.bytes before.locals.base before.locals.len

-- Whatever ends

-- does a pointer that counts beside those inside the ending locals lead to the local of a birth?
abbrev pub is_held_beside : List Pointer → ℕ → Bool
is_held_beside pointers birth = not (nat_eq (pointers_to birth pointers) 0)

-- a fact of memory locals at these addresses that may be checked
abbrev pub ForChecked : Memory → List ℕ → ((ℕ → ℕ) → List Object → Frees → List ℕ → Type 0) → Type 0
ForChecked memory locals P =
    (places : ℕ → ℕ) (objects : List Object) (frees : Frees) (births : List ℕ) → MayCheck memory places objects frees births locals → P places objects frees births

-- the number of the first local that is held
abbrev pub IsFirstHeld : Memory → List ℕ → Option ℕ → Type 0
IsFirstHeld memory locals result =
    ForChecked memory locals (λ places objects frees births. result ≡ position (is_held_beside (pointers_beside objects frees births)) births)

-- the counts are those of the pointers beside
abbrev pub CountsBeside : Memory → Memory → List ℕ → Type 0
CountsBeside old new locals =
    ForChecked old locals (λ places objects frees births. AreCounts places (pointers_beside objects frees births) new.counts.counts)

-- the block of the next local was given back
abbrev pub GivesNextBack : Memory → Memory → ℕ → Type 0
GivesNextBack old new local =
    (places : ℕ → ℕ) (objects : List Object) (births locals : List ℕ) (k : ℕ) → AreGivenBack old places objects births locals k → slice_get locals k ≡ Some local → AreGivenBack new places objects births locals (k + 1)

-- all of them were, and the memory keeps the objects without them
abbrev pub GivesAllBack : Memory → Memory → List ℕ → Type 0
GivesAllBack old new locals =
    (places : ℕ → ℕ) (objects : List Object) (births : List ℕ) → MayGiveBack old places objects births locals → Keeps new places (ended objects births)
