-- What a search for pointers to an object finds.
use Rattle.std.specs.Prelude.{◌≡◌, ◌+◌, ◌<◌, ◌⊎◌, ℕ, true, false, List, length, Option, Some, None, option_map, slice_index, slice_index_or}
use Rattle.hs_base.specs.declared.values.Pointer.TheVariants.{Null}
use Rattle.hs_base.specs.Freeing.{is_pointer_to}
use Rattle.hs_base.specs.Object.{Object, is_queued, object_at}
use Rattle.object_meaning.specs.objects.Holding.{first_of, inside_objects}
use Rattle.flat_objects.specs.declared.holders.Holding.{Holding}
use Rattle.flat_objects.specs.Memory.{Memory}
use Rattle.flat_objects.specs.Standing.{IsThere}
use Rattle.flat_objects.specs.Keeping.{Keeps, HasSlots}
use Rattle.flat_objects.specs.Counting.{AreQueued}
use Rattle.flat_objects.specs.Holders.{IsIn, IsKeptObject, holder_of}

-- no pointer inside the object below a slot of a number leads to an object
abbrev pub HasNoneBelow : ℕ → Object → ℕ → Type 0
HasNoneBelow birth o n =
    (k : ℕ) → k < n → k < length o.pointers → is_pointer_to birth (slice_index_or o.pointers k Null) ≡ false

-- the pointer in a slot leads to it, and none in a slot below
pub record IsFirstAt (birth : ℕ) (o : Object) (offset : ℕ) : Type 0 where
  pub number : ℕ
  pub inside : number < length o.pointers
  pub slot : slice_index o.slots number ≡ offset
  pub leads : is_pointer_to birth (slice_index_or o.pointers number Null) ≡ true
  pub first : HasNoneBelow birth o number

abbrev pub IsFirstSlot : ℕ → Object → Option ℕ → Type 0
IsFirstSlot birth o None = HasNoneBelow birth o (length o.pointers)
IsFirstSlot birth o (Some offset) = IsFirstAt birth o offset

-- two objects are kept, one at a start with a layout, the other at a target, with their sizes
pub record IsKeptSlots (memory : Memory) (places : ℕ → ℕ) (objects : List Object) (birth other start size layout target target_size : ℕ) : Type 0 where
  pub keeps : Keeps memory places objects
  pub there : IsThere objects birth
  pub starts : start ≡ places birth
  pub own_size : size ≡ (object_at objects birth).size
  pub slots : HasSlots memory.forms layout (object_at objects birth)
  pub other_there : IsThere objects other
  pub other_starts : target ≡ places other
  pub other_size : target_size ≡ (object_at objects other).size

abbrev pub IsSomeSlots : Memory → ℕ → ℕ → ℕ → ℕ → ℕ → Type 0
IsSomeSlots memory start size layout target target_size =
    (places : ℕ → ℕ) × (objects : List Object) × (birth : ℕ) × (other : ℕ) × IsKeptSlots memory places objects birth other start size layout target target_size

-- the object is queued, or no pointer inside it leads to the other
abbrev pub HoldsNone : List Object → ℕ → ℕ → Type 0
HoldsNone objects other birth =
    let o = object_at objects birth in (is_queued o.standing ≡ true) ⊎ HasNoneBelow other o (length o.pointers)

-- a pointer inside an object that is not queued, the first in it that leads to the other
pub record IsHolding (objects : List Object) (other : ℕ) (found : Holding) : Type 0 where
  pub lies : IsIn objects found
  pub waits_not : is_queued (object_at objects found.birth).standing ≡ false
  pub first : IsFirstAt other (object_at objects found.birth) found.offset

-- what is found in the object whose block begins at an address
abbrev pub IsHoldingAt : (ℕ → ℕ) → List Object → ℕ → ℕ → Option Holding → Type 0
IsHoldingAt places objects other block None =
    (birth : ℕ) → IsThere objects birth → places birth ≡ block + 32 → HoldsNone objects other birth
IsHoldingAt places objects other block (Some found) =
    (places found.birth ≡ block + 32) × IsHolding objects other found

-- Whatever a memory keeps

-- the offset of the first slot of one object whose pointer leads to another, if there is one
abbrev pub IsFirstSlotOf : Memory → ℕ → ℕ → ℕ → ℕ → ℕ → Option ℕ → Type 0
IsFirstSlotOf memory start size layout target target_size result =
    (places : ℕ → ℕ) (objects : List Object) (birth other : ℕ) → IsKeptSlots memory places objects birth other start size layout target target_size → IsFirstSlot other (object_at objects birth) result

-- an object of a size is kept at an address
abbrev pub IsSomeSized : Memory → ℕ → ℕ → Type 0
IsSomeSized memory target size =
    (places : ℕ → ℕ) × (objects : List Object) × (birth : ℕ) × IsKeptObject memory places objects birth target × (size ≡ (object_at objects birth).size)

-- what is found to lead to it in the object whose block begins at an address
abbrev pub IsHoldingIn : Memory → ℕ → ℕ → ℕ → Option Holding → Type 0
IsHoldingIn memory target size block result =
    (places : ℕ → ℕ) (objects : List Object) (birth : ℕ) → IsKeptObject memory places objects birth target → size ≡ (object_at objects birth).size → IsHoldingAt places objects birth block result

-- what is found to lead to it is the first holder that the definition names inside objects
abbrev pub IsFirstHolder : Memory → ℕ → Option Holding → Type 0
IsFirstHolder memory target result =
    (places : ℕ → ℕ) (objects : List Object) (birth : ℕ) (queue : List ℕ) → IsKeptObject memory places objects birth target → AreQueued objects queue → option_map (holder_of objects) result ≡ first_of (inside_objects queue birth objects)
