-- What reading a whole text answers, where the text is told.
use Rattle.std.specs.Prelude.{◌≡◌, ◌<◌, ◌≤◌, ◌+◌, ℕ, List, length, take, Bool, true, false, Result, Ok, Err, ⊤}
use Rattle.hs_base.specs.declared.reading.ReadError.{ReadError}
use Rattle.hs_base.specs.declared.reading.ReadError.TheVariants.{Fault, TooLong, NoMemory}

-- all of the text, where it has at most so many bytes
abbrev pub Reads : List ℕ → ℕ → Result (List ℕ) ReadError → Type 0
Reads text most (Ok read) = (read ≡ text) × (length text ≤ most)
Reads text most (Err TooLong) = most < length text
Reads text most (Err Fault) = ⊤
Reads text most (Err NoMemory) = ⊤

-- these bytes are the first of a text
abbrev pub IsFront : List ℕ → List ℕ → Type 0
IsFront text front = front ≡ take (length front) text

-- the first bytes after one piece more was read, or all of them where there was none
abbrev pub ReadsMore : List ℕ → List ℕ → Bool → Type 0
ReadsMore text front true = IsFront text front
ReadsMore text front false = front ≡ text

-- the count of the texts rises, by one, exactly with a fault
abbrev pub ReadCounts : {T : Type 0} → ℕ → ℕ → Result T ReadError → Type 0
ReadCounts before after (Err Fault) = after ≡ before + 1
ReadCounts before after _ = after ≡ before
