-- The words in the slots of an object. Equations, proved from `Pointers`.
use Rattle.std.proofs.Common.{◌≡◌, ◌<◌, ◌+◌, ℕ, List, length, get_or}
use Rattle.std.proofs.lemmas.List.{get_or-map, length-map}
use Rattle.byte_memory.specs.Bytes.{word}
use Rattle.typed_copies.specs.Pointers.{words_at}

module _ (bytes : List ℕ) (start : ℕ) (slots : List ℕ) where
  -- as many words as slots
  pub words_len : length (words_at bytes start slots) ≡ length slots
  words_len = length-map slots (λ slot. word bytes (start + slot) 4)

  -- the word in a slot
  pub word_at : (k : ℕ) → k < length slots → get_or (words_at bytes start slots) k 0 ≡ word bytes (start + get_or slots k 0) 4
  word_at k inside = get_or-map (λ slot. word bytes (start + slot) 4) slots k 0 0 inside
