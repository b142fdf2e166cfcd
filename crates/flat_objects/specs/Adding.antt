-- One object more.
use Rattle.std.specs.Prelude.{◌≡◌, ℕ, cond, nat_eq, List, [], ◌∷◌, ◌++◌, map, filter, length, slice_get, Option, Some, IfSome, MatchOption, option_map}
use Rattle.hs_base.specs.declared.values.Pointer.{Pointer}
use Rattle.hs_base.specs.Object.{Object, Local, Static}
use Rattle.c_types.specs.declared.layouts.Layout.{Layout}
use Rattle.adjusters.specs.ObjectSlots.{Element, element_of, object_slots}
use Rattle.byte_marks.specs.Marks.{ChangesMarks, IsMarked, MarksModel}
use Rattle.heap_blocks.specs.Held.{address_of, fit_of}
use Rattle.object_meaning.specs.objects.Making.{blank, heap_object}
use Rattle.flat_objects.specs.Memory.{Memory, Range, heap_of}
use Rattle.flat_objects.specs.Standing.{IsAddressOf}
use Rattle.flat_objects.specs.Keeping.{ForKept, Keeps, block_of, blocks_of, stands_in}
use Rattle.flat_objects.specs.Counting.{Frees, Tracks}

-- one place more
abbrev pub with_place : (ℕ → ℕ) → ℕ → ℕ → (ℕ → ℕ)
with_place places birth addr = λ b. cond (nat_eq b birth) addr (places b)

-- a memory keeps one object more, the youngest, at an address, and each address that stood for a pointer still does
pub record IsAdded (memory : Memory) (places : ℕ → ℕ) (objects : List Object) (o : Object) (addr : ℕ) : Type 0 where
  pub keeps : Keeps memory (with_place places (length objects) addr) (objects ++ o ∷ [])
  -- its block is the last of its range
  pub blocks : (range : Range) → blocks_of memory (with_place places (length objects) addr) (objects ++ o ∷ []) range ≡ blocks_of memory places objects range ++ map (block_of (with_place places (length objects) addr) (heap_of memory range).base) (filter (stands_in range) ((length objects, o) ∷ []))
  pub stand : (p : Pointer) (a : ℕ) → IsAddressOf places objects p a → IsAddressOf (with_place places (length objects) addr) (objects ++ o ∷ []) p a

-- Whatever a memory keeps

-- an object of a size is placed by first fit in a range, or there is no place
abbrev pub IsFirstFit : Memory → Range → ℕ → Option ℕ → Type 0
IsFirstFit memory range size placed =
    ForKept memory (λ places objects. placed ≡ option_map (address_of (heap_of memory range)) (fit_of (heap_of memory range) (blocks_of memory places objects range) size))

-- where an object of the heap is placed, born at a line and with elements of a layout, the memory keeps it
abbrev pub AddsHeapObject : Memory → Memory → ℕ → ℕ → ℕ → ℕ → Option ℕ → Type 0
AddsHeapObject old new birth layout line size placed =
    (places : ℕ → ℕ) (objects : List Object) (element : Layout) → Keeps old places objects → birth ≡ length objects → slice_get old.forms layout ≡ Some (element_of element) → IfSome placed (IsAdded new places objects (heap_object line size element))

-- and it tracks the same frees
abbrev pub TracksHeapObject : Memory → Memory → ℕ → ℕ → ℕ → ℕ → Option ℕ → Type 0
TracksHeapObject old new birth layout line size placed =
    (places : ℕ → ℕ) (objects : List Object) (element : Layout) (frees : Frees) → Keeps old places objects → birth ≡ length objects → slice_get old.forms layout ≡ Some (element_of element) → Tracks old places objects frees → IfSome placed (λ addr. Tracks new (with_place places birth addr) (objects ++ heap_object line size element ∷ []) frees)

-- where a memory local is placed, of one element of a layout, the memory keeps it
abbrev pub AddsLocal : Memory → Memory → ℕ → ℕ → ℕ → Option ℕ → Type 0
AddsLocal old new birth layout size placed =
    (places : ℕ → ℕ) (objects : List Object) (element : Layout) (func index : ℕ) → Keeps old places objects → birth ≡ length objects → slice_get old.forms layout ≡ Some (element_of element) → size ≡ element.size → IfSome placed (IsAdded new places objects (blank (Local func index) size element.slots))

-- and it tracks the same frees
abbrev pub TracksLocal : Memory → Memory → ℕ → ℕ → ℕ → Option ℕ → Type 0
TracksLocal old new birth layout size placed =
    (places : ℕ → ℕ) (objects : List Object) (element : Layout) (func index : ℕ) (frees : Frees) → Keeps old places objects → birth ≡ length objects → slice_get old.forms layout ≡ Some (element_of element) → size ≡ element.size → Tracks old places objects frees → IfSome placed (λ addr. Tracks new (with_place places birth addr) (objects ++ blank (Local func index) size element.slots ∷ []) frees)

-- where a static is placed, of one element of a layout, the memory keeps it; its number is its birth
abbrev pub AddsStatic : Memory → Memory → ℕ → ℕ → ℕ → Option ℕ → Type 0
AddsStatic old new index layout size placed =
    (places : ℕ → ℕ) (objects : List Object) (element : Layout) → Keeps old places objects → index ≡ length objects → slice_get old.forms layout ≡ Some (element_of element) → size ≡ element.size → IfSome placed (IsAdded new places objects (blank (Static index) size element.slots))

-- and it tracks the same frees
abbrev pub TracksStatic : Memory → Memory → ℕ → ℕ → ℕ → Option ℕ → Type 0
TracksStatic old new index layout size placed =
    (places : ℕ → ℕ) (objects : List Object) (element : Layout) (frees : Frees) → Keeps old places objects → index ≡ length objects → slice_get old.forms layout ≡ Some (element_of element) → size ≡ element.size → Tracks old places objects frees → IfSome placed (λ addr. Tracks new (with_place places index addr) (objects ++ blank (Static index) size element.slots ∷ []) frees)

-- Marks

-- only the marks of an object of a size where it was placed changed, and none where it was not
abbrev pub MarksOnly : MarksModel → MarksModel → Option ℕ → ℕ → Type 0
MarksOnly old new placed size = MatchOption placed (new ≡ old) (λ addr. ChangesMarks old new addr size)

-- it has the marks of elements of a layout
abbrev pub HasMarksOf : List Element → ℕ → MarksModel → Option ℕ → ℕ → Type 0
HasMarksOf forms layout marks placed size =
    (form : Element) → slice_get forms layout ≡ Some form → IfSome placed (λ addr. IsMarked marks addr size (object_slots form size))
