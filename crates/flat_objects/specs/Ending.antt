-- The end of the memory locals of a call.
use Rattle.std.specs.Prelude.{◌≡◌, ◌≢◌, ◌<◌, ℕ, not, nat_eq, IsTrue, List, length, filter, map, All, AllPairs, Option, Some, None, slice_get}
use Rattle.std.specs.List.{list_any}
use Rattle.hs_base.specs.declared.values.Pointer.{Pointer}
use Rattle.hs_base.specs.Freeing.{end_numbers, ended}
use Rattle.hs_base.specs.Object.{Object, object_at}
use Rattle.hs_base.specs.Place.{Block}
use Rattle.flat_objects.specs.Memory.{Memory, Statics, Locals, Heap, is_of, pin_room}
use Rattle.flat_objects.specs.Standing.{IsThere, IsAddressOf}
use Rattle.flat_objects.specs.Keeping.{Keeps, KeepsAt, blocks_of}
use Rattle.flat_objects.specs.Counting.{Frees, HasScopes, LeadsSomewhere, Tracks}
use Rattle.flat_objects.specs.Freeing.{number_of}

-- What is asked

-- the object of a birth is a memory local that is not dead
pub record IsLocal (objects : List Object) (birth : ℕ) : Type 0 where
  pub there : IsThere objects birth
  pub sort : IsTrue (is_of Locals (object_at objects birth).sort)

-- different memory locals stand at these addresses
pub record AreLocalsAt (places : ℕ → ℕ) (objects : List Object) (births locals : List ℕ) : Type 0 where
  pub addresses : locals ≡ map places births
  pub own : All (IsLocal objects) births
  pub distinct : AllPairs (λ a b. a ≢ b) births

-- these memory locals may end: the answer is the address of a pointer, for which there is room beside those that are pinned
pub record MayEnd (memory : Memory) (places : ℕ → ℕ) (objects : List Object) (frees : Frees) (births : List ℕ) (p : Pointer) (locals : List ℕ) (answer : ℕ) : Type 0 where
  pub at : KeepsAt memory places objects p answer
  pub tracks : Tracks memory places objects frees
  pub ending : AreLocalsAt places objects births locals
  pub room : length frees.pins < pin_room memory

abbrev pub AreEndable : Memory → List ℕ → ℕ → Type 0
AreEndable memory locals answer =
    (places : ℕ → ℕ) × (objects : List Object) × (frees : Frees) × (births : List ℕ) × (p : Pointer) × MayEnd memory places objects frees births p locals answer

-- What is answered

-- the blocks without those of some births
abbrev pub without_births : List Block → List ℕ → List Block
without_births held births = filter (λ (b : Block). not (list_any (nat_eq b.birth) births)) held

-- the locals are dead, their blocks were given back, and the same pointers are pinned as before
pub record AreEnded (old new : Memory) (places : ℕ → ℕ) (objects : List Object) (frees : Frees) (births : List ℕ) : Type 0 where
  pub keeps : Keeps new places (ended objects births)
  pub tracks : Tracks new places (ended objects births) frees
  pub locals : blocks_of new places (ended objects births) Locals ≡ without_births (blocks_of old places objects Locals) births
  pub heap : blocks_of new places (ended objects births) Heap ≡ blocks_of old places objects Heap
  pub statics : blocks_of new places (ended objects births) Statics ≡ blocks_of old places objects Statics
  -- an address of a pointer to another object still stands for it
  pub stand : (p : Pointer) (addr : ℕ) → IsAddressOf places objects p addr → LeadsSomewhere (ended objects births) p → IsAddressOf places (ended objects births) p addr

-- the end of locals answers what the definition's does: the number of the first that escapes, whose birth the definition names; then
-- the objects, the queue and the open scopes are as they were
abbrev pub AnswersEnd : Memory → Memory → (ℕ → ℕ) → List Object → Frees → List ℕ → Option ℕ → Option ℕ → Type 0
AnswersEnd old new places objects frees births None meant = (meant ≡ None) × AreEnded old new places objects frees births
AnswersEnd old new places objects frees births (Some k) meant =
    (birth : ℕ) × (meant ≡ Some birth) × (slice_get births k ≡ Some birth) × Keeps new places objects × HasScopes new places objects frees.queue frees.scopes

-- whatever may end at these addresses, the end of it answers what the definition's does
abbrev pub EndsLocals : Memory → Memory → List ℕ → ℕ → Option ℕ → Type 0
EndsLocals old new locals answer result =
    (places : ℕ → ℕ) (objects : List Object) (frees : Frees) (births : List ℕ) (p : Pointer) → MayEnd old places objects frees births p locals answer → AnswersEnd old new places objects frees births result (end_numbers objects births (Some p) (number_of objects frees))
