-- Objects, which are named by their birth numbers: their places in the list of all objects that were ever made.
use Rattle.std.specs.Prelude.{ℕ, Bool, true, false, List, [], slice_index_or}
use Rattle.hs_base.specs.declared.values.Pointer.{Pointer}

-- a static, by its number; a memory local, by its function and its number there; a heap object, by its line of birth
pub data Sort : Type 0 where
  Static : (index : ℕ) → Sort
  Local : (func index : ℕ) → Sort
  Heap : (line : ℕ) → Sort

-- a queued object was freed at that line, and can still be read and written
pub data Standing : Type 0 where
  Live : Standing
  Queued : (line : ℕ) → Standing
  Dead : Standing

-- the slots are the offsets of the pointers, ascending; the bytes are all of the object's, those in slots 0 and unused;
-- the pointers are those at the slots, in their order
pub record Object : Type 0 where
  pub sort : Sort
  pub size : ℕ
  pub slots : List ℕ
  pub bytes : List ℕ
  pub pointers : List Pointer
  pub standing : Standing

abbrev pub is_dead : Standing → Bool
is_dead Live = false
is_dead (Queued line) = false
is_dead Dead = true

abbrev pub is_queued : Standing → Bool
is_queued Live = false
is_queued (Queued line) = true
is_queued Dead = false

-- what was never made counts as dead
abbrev pub no_object : Object
no_object = record { sort = Static 0; size = 0; slots = []; bytes = []; pointers = []; standing = Dead }

abbrev pub object_at : List Object → ℕ → Object
object_at objects birth = slice_index_or objects birth no_object
