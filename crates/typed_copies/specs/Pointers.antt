-- The pointers in the slots of objects, and how counts follow them.
use Rattle.std.specs.Prelude.{◌≡◌, ◌+◌, ◌*◌, ◌/◌, ◌<◌, ◌≤◌, ◌&&◌, ℕ, not, nat_eq, List, map, length, sum, count_by, take, drop, All, slice_index}
use Rattle.byte_memory.specs.Bytes.{word}
use Rattle.count_table.specs.Table.{Table}
use Rattle.typed_copies.specs.declared.slots.Within.{Within}

-- Words

-- the words in slots of an object at an address: addresses, and 0 for null
abbrev pub words_at : List ℕ → ℕ → List ℕ → List ℕ
words_at bytes start slots = map (λ slot. word bytes (start + slot) 4) slots

-- those in some of its slots, which follow one another
abbrev pub words_in : List ℕ → ℕ → List ℕ → Within → List ℕ
words_in bytes start slots within = take within.count (drop within.first (words_at bytes start slots))

-- how many of these words are addresses in a granule, which is 16 bytes
abbrev pub into_granule : ℕ → List ℕ → ℕ
into_granule granule words = count_by (λ w. not (nat_eq w 0) && nat_eq (w / 16) granule) words

-- how many of these words are addresses
abbrev pub addresses : List ℕ → ℕ
addresses words = count_by (λ w. not (nat_eq w 0)) words

-- each word is null or an address inside the bytes, and there is a count for each granule of these
pub record ArePointers (bytes : List ℕ) (counts : Table) (words : List ℕ) : Type 0 where
  pub inside : All (λ w. w < length bytes) words
  pub granules : length bytes ≤ 16 * length counts.counts

-- Counts

-- the counts cover the pointers among these words
abbrev pub Cover : Table → List ℕ → Type 0
Cover counts words = (granule : ℕ) → into_granule granule words ≤ slice_index counts.counts granule

-- the counts have room for the pointers among the new words, where those among the old ones go
abbrev pub HaveRoom : Table → List ℕ → List ℕ → Type 0
HaveRoom counts old new = sum counts.counts + addresses new ≤ counts.most + addresses old

-- the pointers among the old words are gone from the counts, and those among the new ones have come
pub record Follow (before after : Table) (old new : List ℕ) : Type 0 where
  pub most : after.most ≡ before.most
  pub long : length after.counts ≡ length before.counts
  pub exact : (granule : ℕ) → slice_index after.counts granule + into_granule granule old ≡ slice_index before.counts granule + into_granule granule new
  pub all : sum after.counts + addresses old ≡ sum before.counts + addresses new
