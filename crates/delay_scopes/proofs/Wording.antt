-- The words in the slots of an object, by its header and the element that it names.
use Rattle.std.proofs.Common.{◌≡◌, ◌<◌, ◌+◌, ℕ, List, [], length, get_or, Some, sym, ap, ◌∙◌, subst}
use Rattle.std.specs.Prelude.{slice_get, unwrap_or}
use Rattle.std.proofs.lemmas.List.{get_or-map, length-map}
use Rattle.std.proofs.lemmas.Option.{unwrap_or-slice_get}
use Rattle.byte_memory.specs.Bytes.{word}
use Rattle.adjusters.specs.ObjectSlots.{Element, object_slots}
use Rattle.delay_scopes.specs.Queue.{header_of}
use Rattle.delay_scopes.specs.Pointers.{slots_of, words_in}

module _ (forms : List Element) (bytes : List ℕ) (addr layout size : ℕ) (form : Element) (layout_is : layout ≡ (header_of bytes addr).layout) (size_is : size ≡ (header_of bytes addr).size) (found : Some form ≡ slice_get forms layout) where
  pub slots_by : object_slots form size ≡ slots_of forms bytes addr
  slots_by =
      let none : Element = record { size = 0; slots = [] } in
      let here : form ≡ get_or forms layout none = ap (λ o. unwrap_or o none) found ∙ unwrap_or-slice_get forms layout none in
      let there : form ≡ get_or forms (header_of bytes addr).layout none = here ∙ ap (λ n. get_or forms n none) layout_is in
      ap (λ (f : Element). object_slots f size) there ∙ ap (object_slots (get_or forms (header_of bytes addr).layout none)) size_is

  pub length-words : length (words_in forms bytes addr) ≡ length (object_slots form size)
  length-words =
      length-map (slots_of forms bytes addr) (λ slot. word bytes (addr + slot) 4) ∙ ap length (sym slots_by)

  -- the word in the slot of a number
  pub word_is : (k slot : ℕ) → k < length (object_slots form size) → slot ≡ get_or (object_slots form size) k 0 → get_or (words_in forms bytes addr) k 0 ≡ word bytes (addr + slot) 4
  word_is k slot below is =
      let inside : k < length (slots_of forms bytes addr) = subst (λ (l : List ℕ). k < length l) slots_by below in
      get_or-map (λ slot. word bytes (addr + slot) 4) (slots_of forms bytes addr) k 0 0 inside
      ∙ ap (λ n. word bytes (addr + n) 4) (sym (is ∙ ap (λ (l : List ℕ). get_or l k 0) slots_by))
