-- Literals as characters in turn, each the longest at its place, before a closing quote (C99 6.4.4.4 and 6.4.5): what
-- `constant_end` and `string_end` find, said without the reading.
use Rattle.std.specs.Prelude.{◌≡◌, ℕ, ◌+◌, ◌<◌, ◌≤◌, ◌==◌, ◌||◌, ◌&&◌, ◌↔◌, Bool, true, false, not, nat_le, if◌then◌else◌, List, [], ◌∷◌, length, take, drop, sum, Some, IsTrue}
use Rattle.std.specs.List.{list_all}
use Rattle.c_lexer.specs.Bytes.{is_octal_digit, is_hexadecimal_digit}
use Rattle.c_lexer.specs.Literals.{is_simple_escape, escape_value, begins_with, constant_end, string_end}
use Rattle.c_lexer.specs.Pieces.{is_empty}

-- an escape without its backslash, whole: one byte, one to three octal digits, or `x` and hexadecimal digits
abbrev pub is_escape : List ℕ → Bool
is_escape [] = false
is_escape (b ∷ w) =
    (is_simple_escape b && is_empty w) || (is_octal_digit b && list_all is_octal_digit w && nat_le (length w) 2)
    || (b == 120 && list_all is_hexadecimal_digit w && not (is_empty w))

-- a character, whole: an escape, or a byte other than the quote, the backslash and byte 10
abbrev pub is_character : ℕ → List ℕ → Bool
is_character quote [] = false
is_character quote (b ∷ w) = if b == 92 then is_escape w else is_empty w && not (b == quote || b == 10)

-- the value of an escape is at most 255
abbrev pub is_byte_character : List ℕ → Bool
is_byte_character [] = true
is_byte_character (b ∷ w) = if b == 92 then nat_le (escape_value w) 255 else true

-- the longest character at the front of a text has this length, and a value of at most 255
pub record HasCharacter (quote : ℕ) (text : List ℕ) (n : ℕ) : Type 0 where
  pub within : n ≤ length text
  pub formed : IsTrue (is_character quote (take n text))
  pub longest : (more : ℕ) → n < more → more ≤ length text → is_character quote (take more text) ≡ false
  pub fits : IsTrue (is_byte_character (take n text))

-- characters of these lengths stand in turn, and then the quote
abbrev pub HasCharacters : ℕ → List ℕ → List ℕ → Type 0
HasCharacters quote text [] = IsTrue (begins_with quote text)
HasCharacters quote text (n ∷ ns) = HasCharacter quote text n × HasCharacters quote (drop n text) ns

-- behind its opening quote a string literal is characters in turn and the closing quote
abbrev pub StringsAreCharacters : Type 0
StringsAreCharacters =
    (text : List ℕ) (n : ℕ) → (string_end 0 text ≡ Some n)
    ↔ ((lengths : List ℕ) × (HasCharacters 34 text lengths × (sum lengths + 1 ≡ n)))

-- behind its opening quote a character constant is one character and the closing quote
abbrev pub ConstantsAreCharacters : Type 0
ConstantsAreCharacters =
    (text : List ℕ) (n : ℕ) → (constant_end text ≡ Some n)
    ↔ ((long : ℕ) × (HasCharacter 39 text long × IsTrue (begins_with 39 (drop long text)) × (long + 1 ≡ n)))
