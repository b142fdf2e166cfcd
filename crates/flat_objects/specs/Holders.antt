-- The first pointer inside an object that leads to another.
use Rattle.std.specs.Prelude.{◌≡◌, ℕ, cond, nat_lt, List, Option, Some, None}
use Rattle.hs_base.specs.declared.ends.Holder.{Holder}
use Rattle.hs_base.specs.Object as object
use Rattle.hs_base.specs.Object.{Object, Sort, object_at}
use Rattle.object_meaning.specs.objects.Holding.{inside}
use Rattle.flat_objects.specs.declared.holders.Holding.{Holding}
use Rattle.flat_objects.specs.declared.holders.Storage.{Storage}
use Rattle.flat_objects.specs.declared.holders.Storage.TheVariants as storage
use Rattle.flat_objects.specs.Memory.{Memory}
use Rattle.flat_objects.specs.Standing.{IsThere}
use Rattle.flat_objects.specs.Keeping.{Keeps, IsLineOf}

-- the holder of the definition that was found
abbrev pub holder_of : List Object → Holding → Holder
holder_of objects found = inside (object_at objects found.birth).sort found.offset

-- the storage of objects of a sort
abbrev pub storage_of : Sort → Storage
storage_of (object.Static index) = storage.Static
storage_of (object.Local func index) = storage.Local
storage_of (object.Heap line) = storage.Block

-- it stands in an object that is not dead, and has that object's storage and its line of birth, where it has one
pub record IsIn (objects : List Object) (found : Holding) : Type 0 where
  pub there : IsThere objects found.birth
  pub storage : found.storage ≡ storage_of (object_at objects found.birth).sort
  pub line : IsLineOf (object_at objects found.birth).sort found.line

-- the one in the older object
abbrev pub older : Option Holding → Option Holding → Option Holding
older None other = other
older (Some one) None = Some one
older (Some one) (Some other) = cond (nat_lt other.birth one.birth) (Some other) (Some one)

-- the object of a birth is kept at an address
pub record IsKeptObject (memory : Memory) (places : ℕ → ℕ) (objects : List Object) (birth addr : ℕ) : Type 0 where
  pub keeps : Keeps memory places objects
  pub there : IsThere objects birth
  pub address : addr ≡ places birth

abbrev pub IsSomeObject : Memory → ℕ → Type 0
IsSomeObject memory addr =
    (places : ℕ → ℕ) × (objects : List Object) × (birth : ℕ) × IsKeptObject memory places objects birth addr

-- a fact of the object that is kept at an address
abbrev pub ForObject : Memory → ℕ → ((ℕ → ℕ) → List Object → ℕ → Type 0) → Type 0
ForObject memory addr P =
    (places : ℕ → ℕ) (objects : List Object) (birth : ℕ) → IsKeptObject memory places objects birth addr → P places objects birth
