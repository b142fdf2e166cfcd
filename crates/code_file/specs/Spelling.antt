-- How the parts of a code file are spelled, and what a reader of spellings answers.
use Rattle.std.specs.Prelude.{◌≡◌, ◌<◌, ◌^◌, ◌++◌, ℕ, ℤ, Bool, cond, List, [], ◌∷◌, length, All, Option, Some, None, Result, Ok, Err, FitsSigned}
use Rattle.std.specs.Int.{cast_unsigned, to_le_bytes, w32, w64}
use Rattle.std.specs.List.{flat_map}
use Rattle.code_file.specs.declared.file.CodeError.{CodeError}
use Rattle.code_file.specs.declared.file.CodeError.TheVariants as error

-- Spellings

abbrev pub byte : ℕ → List ℕ
byte b = b ∷ []

-- a truth value: 1 or 0
abbrev pub truth : Bool → List ℕ
truth b = cond b 1 0 ∷ []

-- a number in four bytes, the lowest first
unfoldable pub number : ℕ → List ℕ
number n = to_le_bytes w32 n

-- a number with a sign in eight bytes, in two's complement, the lowest first
unfoldable pub signed : ℤ → List ℕ
signed n = to_le_bytes w64 (cast_unsigned w64 n)

-- one part behind another
abbrev pub pair : {A B : Type 0} → (A → List ℕ) → (B → List ℕ) → A × B → List ℕ
pair a b p = a p.0 ++ b p.1

-- a list: the number of its items, and each of them
unfoldable pub list_of : {X : Type 0} → (X → List ℕ) → List X → List ℕ
list_of item xs = number (length xs) ++ flat_map item xs

-- what may be missing: a 0, or a 1 and what is there
abbrev pub optional : {X : Type 0} → (X → List ℕ) → Option X → List ℕ
optional item None = 0 ∷ []
optional item (Some x) = 1 ∷ item x

-- Ranges

abbrev pub Any : {X : Type 0} → X → Type 0
Any x = Unit {0}

abbrev pub IsByte : ℕ → Type 0
IsByte b = b < 2 ^ 8

abbrev pub IsNumber : ℕ → Type 0
IsNumber n = n < 2 ^ 32

abbrev pub IsSigned : ℤ → Type 0
IsSigned n = FitsSigned w64 n

-- a list of fewer than 2^32 items
abbrev pub IsShort : {X : Type 0} → List X → Type 0
IsShort xs = length xs < 2 ^ 32

-- a short list, P of each item
abbrev pub IsShortList : {X : Type 0} → (X → Type 0) → List X → Type 0
IsShortList P xs = IsShort xs × All P xs

-- P of one part, Q of the other
abbrev pub Both : {A B : Type 0} → (A → Type 0) → (B → Type 0) → A × B → Type 0
Both P Q p = P p.0 × Q p.1

-- What a reader answers

-- of all that fits, one value is spelled by the first bytes, and others stand behind it
pub record Begins {X : Type 0} (Fits : X → Type 0) (spell : X → List ℕ) (bytes rest : List ℕ) (x : X) : Type 0 where
  pub fits : Fits x
  pub spelled : bytes ≡ spell x ++ rest
  pub only : (y : X) (others : List ℕ) → Fits y → bytes ≡ spell y ++ others → (y ≡ x) × (others ≡ rest)

-- the value that the first bytes spell, and then it stands behind them; Form where they spell none
abbrev pub Reads : {X : Type 0} → (X → Type 0) → (X → List ℕ) → List ℕ → List ℕ → Result X CodeError → Type 0
Reads Fits spell bytes rest (Ok x) = Begins Fits spell bytes rest x
Reads Fits spell bytes rest (Err error.Form) = (x : _) (others : List ℕ) → Fits x → bytes ≡ spell x ++ others → ⊥
Reads Fits spell bytes rest (Err error.NoMemory) = Unit {0}
