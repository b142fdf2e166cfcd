-- The words in the slots of an object.
use Rattle.std.proofs.Common.{◌≡◌, ◌<◌, ◌≤◌, ◌+◌, ℕ, List, length, length-take, length-drop, get_or, get_or-take, get_or-drop, drop, ◌∙◌, arith}
use Rattle.c_types.specs.Layouts.{AreSlots}
use Rattle.byte_memory.specs.Bytes.{word}
use Rattle.adjusters.specs.ObjectSlots.{Element, object_slots}
use Rattle.typed_copies.specs.declared.slots.Within.{Within}
use Rattle.typed_copies.specs.Pointers.{words_at, words_in}
use Rattle.typed_copies.proofs.Ascending.{ends_at, object_has_slots}
use Rattle.typed_copies.specs.PointersEquations.{word_at, words_len}

-- a slot ends inside its object
pub slot_inside : (form : Element) (size k : ℕ) → AreSlots 0 form.size form.slots → k < length (object_slots form size) → get_or (object_slots form size) k 0 + 4 ≤ size
slot_inside form size k is inside = ends_at 0 size (object_slots form size) k 0 (object_has_slots form size is) inside

module _ (bytes : List ℕ) (start : ℕ) (slots : List ℕ) where
  -- as many words as slots, among some
  pub words_in_len : (w : Within) → w.first + w.count ≤ length slots → length (words_in bytes start slots w) ≡ w.count
  words_in_len w inside = length-take w.count (drop w.first (words_at bytes start slots)) ∙ omega (arith, length-drop w.first (words_at bytes start slots), words_len bytes start slots)

  -- the word in one of some slots
  pub word_in_at : (w : Within) (k : ℕ) → w.first + w.count ≤ length slots → k < w.count → get_or (words_in bytes start slots w) k 0 ≡ word bytes (start + get_or slots (w.first + k) 0) 4
  word_in_at w k inside less =
      get_or-take w.count (drop w.first (words_at bytes start slots)) k 0 less ∙ get_or-drop w.first (words_at bytes start slots) k 0 ∙ word_at bytes start slots (w.first + k) (omega arith)
