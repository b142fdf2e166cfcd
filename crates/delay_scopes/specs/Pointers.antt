-- The pointers inside objects, and the counts without them.
use Rattle.std.specs.Prelude.{◌≡◌, ◌+◌, ◌/◌, ◌&&◌, ℕ, not, nat_eq, List, [], map, length, slice_index, slice_index_or, count_by}
use Rattle.std.specs.List.{flat_map}
use Rattle.byte_memory.specs.Bytes.{word}
use Rattle.adjusters.specs.ObjectSlots.{Element, object_slots}
use Rattle.count_table.specs.Table.{Table}
use Rattle.delay_scopes.specs.Queue.{header_of}

-- the element of a number, by which a header names it
abbrev pub form_at : List Element → ℕ → Element
form_at forms layout = slice_index_or forms layout (record { size = 0; slots = [] })

-- the slots of the object at an address, by its header
abbrev pub slots_of : List Element → List ℕ → ℕ → List ℕ
slots_of forms bytes addr = object_slots (form_at forms (header_of bytes addr).layout) (header_of bytes addr).size

-- the words in the slots of the object at an address: addresses, and 0 for null
abbrev pub words_in : List Element → List ℕ → ℕ → List ℕ
words_in forms bytes addr = map (λ slot. word bytes (addr + slot) 4) (slots_of forms bytes addr)

-- the words in the slots of these objects
abbrev pub words_inside : List Element → List ℕ → List ℕ → List ℕ
words_inside forms bytes queue = flat_map (words_in forms bytes) queue

-- how many of these words are addresses in a granule
abbrev pub into_granule : ℕ → List ℕ → ℕ
into_granule granule words = count_by (λ w. not (nat_eq w 0) && nat_eq (w / 16) granule) words

-- each count is lower by exactly the number of these words that are addresses in its granule
pub record LowersBy (words : List ℕ) (before after : Table) : Type 0 where
  pub most : after.most ≡ before.most
  pub long : length after.counts ≡ length before.counts
  pub exact : (granule : ℕ) → slice_index after.counts granule + into_granule granule words ≡ slice_index before.counts granule
