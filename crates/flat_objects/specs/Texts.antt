-- Strings in a memory.
use Rattle.std.specs.Prelude.{◌≡◌, ◌<◌, ◌≤◌, ℕ, List, length, slice_index, Option, Some, None, Result, Ok}
use Rattle.hs_base.specs.declared.ends.TrapKind.{TrapKind}
use Rattle.hs_base.specs.declared.values.Pointer.{Pointer}
use Rattle.hs_base.specs.declared.values.Pointer.TheVariants as pointer
use Rattle.hs_base.specs.Access.{Refusal}
use Rattle.hs_base.specs.Object.{Object, object_at}
use Rattle.object_meaning.specs.objects.Strings.{room_at, string_at}
use Rattle.flat_objects.specs.declared.finding.Found.{Found}
use Rattle.flat_objects.specs.Memory.{Memory}
use Rattle.flat_objects.specs.Standing.{IsThere}
use Rattle.flat_objects.specs.Keeping.{ForPointer, Keeps, KeepsAt}
use Rattle.flat_objects.specs.Answering.{Answers}
use Rattle.flat_objects.specs.Reaching.{IsFound}

-- the object that a pointer leads to was found
pub record IsIn (memory : Memory) (places : ℕ → ℕ) (objects : List Object) (birth offset : ℕ) (found : Found) : Type 0 where
  pub there : IsThere objects birth
  pub inside : offset ≤ (object_at objects birth).size
  pub finds : IsFound memory places objects birth offset found

-- what a pointer leads to: nothing, or an object
abbrev pub IsTextAt : Memory → (ℕ → ℕ) → List Object → Pointer → Option Found → Type 0
IsTextAt memory places objects pointer.Null None = Unit {0}
IsTextAt memory places objects (pointer.At birth offset) (Some found) = IsIn memory places objects birth offset found
IsTextAt memory places objects _ _ = ⊥

-- a memory keeps objects, and this is what a pointer leads to
pub record KeepsText (memory : Memory) (places : ℕ → ℕ) (objects : List Object) (p : Pointer) (text : Option Found) : Type 0 where
  pub keeps : Keeps memory places objects
  pub leads : IsTextAt memory places objects p text

abbrev pub IsKeptText : Memory → Option Found → Type 0
IsKeptText memory text =
    (places : ℕ → ℕ) × (objects : List Object) × (p : Pointer) × KeepsText memory places objects p text

-- these are the bytes of the string at an address, and more than so many
pub record StringByte (memory : Memory) (places : ℕ → ℕ) (objects : List Object) (p : Pointer) (addr : ℕ) (bytes : List ℕ) (i : ℕ) : Type 0 where
  pub at : KeepsAt memory places objects p addr
  pub string : string_at objects p ≡ Ok bytes
  pub more : i < length bytes

abbrev pub IsStringByte : Memory → ℕ → ℕ → Type 0
IsStringByte memory addr i =
    (places : ℕ → ℕ) × (objects : List Object) × (p : Pointer) × (bytes : List ℕ) × StringByte memory places objects p addr bytes i

-- Whatever a memory keeps

-- so many bytes are one more than the object of a text has
abbrev pub IsRoomOf : Option Found → ℕ → Type 0
IsRoomOf text n =
    (places : ℕ → ℕ) (objects : List Object) (memory : Memory) (p : Pointer) → KeepsText memory places objects p text → n ≡ room_at objects p

-- the text at an address
abbrev pub IsTextOf : Memory → ℕ → Option Found → Type 0
IsTextOf memory addr text = ForPointer memory addr (λ places objects p. KeepsText memory places objects p text)

-- the code answers of a text what the definition does of the pointer to it
abbrev pub AnswersOfText : {A : Type 0} → Memory → Option Found → Result A TrapKind → (List Object → Pointer → Result A Refusal) → Type 0
AnswersOfText memory text result meant =
    (places : ℕ → ℕ) (objects : List Object) (p : Pointer) → KeepsText memory places objects p text → Answers result (meant objects p)

-- a byte of a number in the string at an address
abbrev pub IsByteOfString : Memory → ℕ → ℕ → ℕ → Type 0
IsByteOfString memory addr i byte =
    (places : ℕ → ℕ) (objects : List Object) (p : Pointer) (bytes : List ℕ) → StringByte memory places objects p addr bytes i → byte ≡ slice_index bytes i
