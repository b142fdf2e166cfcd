-- New objects.
use Rattle.std.specs.Prelude.{ℕ, ◌/◌, cond, nat_eq, List, [], ◌∷◌, ◌++◌, map, length, replicate}
use Rattle.std.specs.List.{enumerate_from}
use Rattle.hs_base.specs.declared.values.Pointer.{Pointer}
use Rattle.hs_base.specs.declared.values.Pointer.TheVariants as pointer
use Rattle.hs_base.specs.Access.{overlaid}
use Rattle.hs_base.specs.Object.{Object, Sort, Static, Local, Heap, Live}
use Rattle.hs_base.specs.State.{State}
use Rattle.c_types.specs.declared.layouts.Layout.{Layout}
use Rattle.c_types.specs.Layouts.{array_layout}
use Rattle.core_tree.specs.declared.program.Mem.{Mem}
use Rattle.core_tree.specs.declared.program.Static as program

-- an object with all bytes zero and all pointers null
abbrev pub blank : Sort → ℕ → List ℕ → Object
blank sort size slots =
    record { sort = sort; size = size; slots = slots; bytes = replicate size 0; pointers = replicate (length slots) pointer.Null; standing = Live }

-- a heap object has the slots of its whole elements
abbrev pub heap_object : ℕ → ℕ → Layout → Object
heap_object line size element = blank (Heap line) size (array_layout (size / element.size) element).slots

-- the state with a new heap object, which is the youngest
abbrev pub with_new : ℕ → ℕ → Layout → State → State
with_new line size element s = record s { objects = s.objects ++ heap_object line size element ∷ [] }

-- a memory local of a function, with its number
abbrev pub local_object : ℕ → ℕ × Mem → Object
local_object func mem = blank (Local func mem.0) mem.1.layout.size mem.1.layout.slots

-- the memory locals of a call of a function, in the order of their declarations
abbrev pub local_objects : ℕ → List Mem → List Object
local_objects func mems = map (local_object func) (enumerate_from 0 mems)

-- the pointer at a slot, from the list of those that are not null
abbrev pub first_pointer : List (ℕ × ℕ × ℕ) → ℕ → Pointer
first_pointer [] slot = pointer.Null
first_pointer (p ∷ pointers) slot = cond (nat_eq p.0 slot) (pointer.At p.1 p.2) (first_pointer pointers slot)

-- a static as it is before the run
abbrev pub static_object : ℕ × program.Static → Object
static_object static =
    let layout = static.1.layout in
    let start = static.1.start in
    record {
      sort = Static static.0;
      size = layout.size;
      slots = layout.slots;
      bytes = overlaid (replicate layout.size 0) 0 start.bytes;
      pointers = map (first_pointer start.pointers) layout.slots;
      standing = Live;
    }

-- the statics, in their order
abbrev pub static_objects : List program.Static → List Object
static_objects statics = map static_object (enumerate_from 0 statics)
