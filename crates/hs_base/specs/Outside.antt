-- What texts, a source and a sink do at a call, where their bytes are told, and when their counts of faults rise.
use Rattle.std.specs.Prelude.{◌≡◌, ◌≤◌, ◌↔◌, ℕ, ◌+◌, List, [], ◌∷◌, ◌++◌, cond, Option, Some, None, Result, Ok, Err, length, take, drop, unwrap_or}
use Rattle.std.specs.Str.{bytes_eq}
use Rattle.hs_base.specs.declared.outside.Failed.{Failed}

-- the first text of that name
abbrev pub text_of : List (List ℕ × List ℕ) → List ℕ → Option (List ℕ)
text_of [] name = None
text_of (held ∷ rest) name = cond (bytes_eq held.0 name) (Some held.1) (text_of rest name)

-- a name without a text has the empty one
abbrev pub text_or_empty : List (List ℕ × List ℕ) → List ℕ → List ℕ
text_or_empty texts name = unwrap_or (text_of texts name) []

-- the first n bytes of the buffer stand in the text from that place on, and n is 0 exactly at or past the text's end
abbrev pub IsPiece : List ℕ → ℕ → List ℕ → ℕ → Type 0
IsPiece text place buffer n =
    (take n buffer ≡ take n (drop place text)) × (n ≤ length (drop place text)) × ((n ≡ 0) ↔ (length text ≤ place))

abbrev pub GivesPiece : Option (List ℕ → List ℕ) → List ℕ → ℕ → List ℕ → Result ℕ Failed → Type 0
GivesPiece texts name place buffer (Ok n) =
    (told : List ℕ → List ℕ) → texts ≡ Some told → IsPiece (told name) place buffer n
GivesPiece texts name place buffer (Err e) = Unit {0}

abbrev pub TakesByte : Option (List ℕ) → Option (List ℕ) → Result (Option ℕ) Failed → Type 0
TakesByte before after (Ok None) = (left : List ℕ) → before ≡ Some left → (left ≡ []) × (after ≡ Some [])
TakesByte before after (Ok (Some byte)) =
    (left : List ℕ) → before ≡ Some left → (rest : List ℕ) × (left ≡ byte ∷ rest) × (after ≡ Some rest)
TakesByte before after (Err e) = after ≡ before

-- what is left begins with these bytes
abbrev pub BeginsWith : Option (List ℕ) → List ℕ → Type 0
BeginsWith told bytes = (left : List ℕ) → told ≡ Some left → (rest : List ℕ) × (left ≡ bytes ++ rest)

abbrev pub SkipsBytes : Option (List ℕ) → Option (List ℕ) → ℕ → Type 0
SkipsBytes before after count = (left : List ℕ) → before ≡ Some left → after ≡ Some (drop count left)

abbrev pub PutsBytes : Option (List ℕ) → Option (List ℕ) → List ℕ → Result ℕ Failed → Type 0
PutsBytes before after bytes (Ok n) =
    (taken : List ℕ) → before ≡ Some taken → after ≡ Some (taken ++ take n bytes)
PutsBytes before after bytes (Err e) = after ≡ before

-- a count rises, by one, exactly with a failure
abbrev pub CountsFaults : {T : Type 0} → ℕ → ℕ → Result T Failed → Type 0
CountsFaults before after (Ok value) = after ≡ before
CountsFaults before after (Err e) = after ≡ before + 1
