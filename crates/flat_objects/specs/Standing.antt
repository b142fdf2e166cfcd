-- What addresses and words of registers stand for, where the objects that are not dead stand at their places: the addresses
-- of their first bytes, by birth. What `places` says of other births does not matter.
use Rattle.std.specs.Prelude.{◌≡◌, ◌+◌, ◌≤◌, ℕ, false, List}
use Rattle.hs_base.specs.declared.values.Pointer.{Pointer}
use Rattle.hs_base.specs.declared.values.Pointer.TheVariants as pointer
use Rattle.hs_base.specs.declared.values.Value.{Value}
use Rattle.hs_base.specs.declared.values.Value.TheVariants as value
use Rattle.hs_base.specs.Object.{Object, is_dead, object_at}
use Rattle.flat_objects.specs.declared.words.Word.{Word}
use Rattle.flat_objects.specs.declared.words.Word.TheVariants as word

-- the object of this birth was made and is not dead
abbrev pub IsThere : List Object → ℕ → Type 0
IsThere objects birth = is_dead (object_at objects birth).standing ≡ false

-- the address is so many bytes behind the start of an object, inside it or one past its end
pub record IsAt (places : ℕ → ℕ) (objects : List Object) (birth offset addr : ℕ) : Type 0 where
  pub there : IsThere objects birth
  pub inside : offset ≤ (object_at objects birth).size
  pub address : addr ≡ places birth + offset

-- the address stands for the pointer: 0 for null
abbrev pub IsAddressOf : (ℕ → ℕ) → List Object → Pointer → ℕ → Type 0
IsAddressOf places objects pointer.Null addr = addr ≡ 0
IsAddressOf places objects (pointer.At birth offset) addr = IsAt places objects birth offset addr

-- the word of a register stands for the value
abbrev pub StandsFor : (ℕ → ℕ) → List Object → Value → Word → Type 0
StandsFor places objects (value.Number n) (word.Number w) = w ≡ n
StandsFor places objects (value.Pointer p) (word.Address addr) = IsAddressOf places objects p addr
StandsFor places objects _ _ = ⊥
