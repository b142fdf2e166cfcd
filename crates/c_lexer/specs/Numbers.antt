-- Integer constants (C99 6.4.4.1). A digit and the longest run of letters, digits, `_` and `.` behind it are read as
-- one piece (6.4.8); this is its form.
use Rattle.std.specs.Prelude.{ℕ, ◌+◌, ◌*◌, ◌-◌, ◌^◌, Bool, ◌==◌, ◌||◌, ◌&&◌, nat_le, if◌then◌else◌, List, [], ◌∷◌, length, take, drop, fold, Option, Some, None}
use Rattle.std.specs.List.{list_any, prefix_len}
use Rattle.c_lexer.specs.Bytes.{is_digit, is_octal_digit, is_hexadecimal_digit, digit_value}
use Rattle.c_lexer.specs.declared.number.Base.{Base}
use Rattle.c_lexer.specs.declared.number.Base.TheVariants.{Octal, Decimal, Hexadecimal}
use Rattle.c_lexer.specs.declared.number.Suffix.{Suffix}
use Rattle.c_lexer.specs.declared.number.Suffix.TheVariants.{Plain, U, L, Ul, Ll, Ull}

-- behind a first `0`: `x` or `X` begins hexadecimal digits, and everything else is octal
abbrev pub base_behind_zero : List ℕ → Base
base_behind_zero [] = Octal
base_behind_zero (b ∷ w) = if b == 120 || b == 88 then Hexadecimal else Octal

-- the base of a number
unfoldable pub base_of : List ℕ → Base
base_of [] = Decimal
base_of (b ∷ w) = if b == 48 then base_behind_zero w else Decimal

-- how many bytes stand before the digits: `0x` of a hexadecimal number
abbrev pub prefix_length : Base → ℕ
prefix_length Octal = 0
prefix_length Decimal = 0
prefix_length Hexadecimal = 2

-- the value of the digits `10`
abbrev pub radix : Base → ℕ
radix Octal = 8
radix Decimal = 10
radix Hexadecimal = 16

-- whether a byte is a digit of the base
abbrev pub is_digit_of : Base → ℕ → Bool
is_digit_of Octal b = is_octal_digit b
is_digit_of Decimal b = is_digit b
is_digit_of Hexadecimal b = is_hexadecimal_digit b

-- what stands behind the prefix of the base: the digits, and then the suffix
abbrev pub behind_prefix : List ℕ → List ℕ
behind_prefix w = drop (prefix_length (base_of w)) w

-- how many digits a number has
abbrev pub digit_count : List ℕ → ℕ
digit_count w = prefix_len (is_digit_of (base_of w)) (behind_prefix w)

-- the digits of a number
abbrev pub digits_of : List ℕ → List ℕ
digits_of w = take (digit_count w) (behind_prefix w)

-- what stands behind the digits of a number
abbrev pub behind_digits : List ℕ → List ℕ
behind_digits w = drop (digit_count w) (behind_prefix w)

-- the value of digits in a base, the first digit the highest
unfoldable pub digits_value : ℕ → List ℕ → ℕ
digits_value base digits = fold (λ value d. value * base + digit_value d) 0 digits

-- the value of a number
abbrev pub number_value : List ℕ → ℕ
number_value w = digits_value (radix (base_of w)) (digits_of w)

-- a `u` of a suffix
abbrev pub is_u : ℕ → Bool
is_u b = b == 117 || b == 85

-- an `l` of a suffix
abbrev pub is_l : ℕ → Bool
is_l b = b == 108 || b == 76

-- the suffix that these bytes are: none, `u`, `l`, `ul`, `lu`, `ll`, `ull` or `llu`, each group in either case, but
-- `ll` in one case
unfoldable pub suffix_of : List ℕ → Option Suffix
suffix_of [] = Some Plain
suffix_of (a ∷ []) = if is_u a then Some U else if is_l a then Some L else None
suffix_of (a ∷ b ∷ []) =
    if (is_u a && is_l b) || (is_l a && is_u b) then Some Ul else if is_l a && a == b then Some Ll else None
suffix_of (a ∷ b ∷ c ∷ []) =
    if (is_u a && is_l b && b == c) || (is_l a && a == b && is_u c) then Some Ull else None
suffix_of (a ∷ b ∷ c ∷ d ∷ w) = None

-- the suffix of a number, where it has the form of one: at least one digit, and a suffix
abbrev pub form_of : List ℕ → Option Suffix
form_of w = if length (digits_of w) == 0 then None else suffix_of (behind_digits w)

-- a type that a number may have
pub data NumberType : Type 0 where
  Int : NumberType
  Unsigned : NumberType
  Long : NumberType
  UnsignedLong : NumberType
  LongLong : NumberType
  UnsignedLongLong : NumberType

-- the greatest value of a type: int and long have 32 bits, long long has 64
abbrev pub greatest : NumberType → ℕ
greatest Int = 2 ^ 31 - 1
greatest Unsigned = 2 ^ 32 - 1
greatest Long = 2 ^ 31 - 1
greatest UnsignedLong = 2 ^ 32 - 1
greatest LongLong = 2 ^ 63 - 1
greatest UnsignedLongLong = 2 ^ 64 - 1

-- the types of a decimal number by its suffix, in order
abbrev pub decimal_types : Suffix → List NumberType
decimal_types Plain = Int ∷ Long ∷ LongLong ∷ []
decimal_types U = Unsigned ∷ UnsignedLong ∷ UnsignedLongLong ∷ []
decimal_types L = Long ∷ LongLong ∷ []
decimal_types Ul = UnsignedLong ∷ UnsignedLongLong ∷ []
decimal_types Ll = LongLong ∷ []
decimal_types Ull = UnsignedLongLong ∷ []

-- the types of an octal or hexadecimal number by its suffix, in order
abbrev pub other_types : Suffix → List NumberType
other_types Plain = Int ∷ Unsigned ∷ Long ∷ UnsignedLong ∷ LongLong ∷ UnsignedLongLong ∷ []
other_types U = Unsigned ∷ UnsignedLong ∷ UnsignedLongLong ∷ []
other_types L = Long ∷ UnsignedLong ∷ LongLong ∷ UnsignedLongLong ∷ []
other_types Ul = UnsignedLong ∷ UnsignedLongLong ∷ []
other_types Ll = LongLong ∷ UnsignedLongLong ∷ []
other_types Ull = UnsignedLongLong ∷ []

-- the types of a number by its base and suffix, in order
abbrev pub types_of : Base → Suffix → List NumberType
types_of Octal suffix = other_types suffix
types_of Decimal suffix = decimal_types suffix
types_of Hexadecimal suffix = other_types suffix

-- whether a type of the list holds the value
unfoldable pub is_held : Base → Suffix → ℕ → Bool
is_held base suffix value = list_any (λ t. nat_le value (greatest t)) (types_of base suffix)
