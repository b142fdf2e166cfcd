-- Classes of bytes (C99 5.2.1 and 6.4). A byte is written by its number in ASCII.
use Rattle.std.specs.Prelude.{ℕ, ◌-◌, Bool, ◌==◌, ◌||◌, ◌&&◌, nat_le, if◌then◌else◌, codes}
use Rattle.std.specs.List.{list_any}
use Rattle.c_lexer.specs.declared.bytes.ByteClass.{ByteClass}
use Rattle.c_lexer.specs.declared.bytes.ByteClass.TheVariants.{Space, Letter, Digit, Quote, Hash, Slash, Mark, Other}

-- whether a byte is from one to another
abbrev pub is_between : ℕ → ℕ → ℕ → Bool
is_between low high b = nat_le low b && nat_le b high

-- white space: the space and bytes 9 to 13
unfoldable pub is_space : ℕ → Bool
is_space b = b == 32 || is_between 9 13 b

-- what may stand between the words of a directive: the space and byte 9
unfoldable pub is_blank : ℕ → Bool
is_blank b = b == 32 || b == 9

-- a letter or `_`
unfoldable pub is_letter : ℕ → Bool
is_letter b = is_between 97 122 b || is_between 65 90 b || b == 95

-- a decimal digit
unfoldable pub is_digit : ℕ → Bool
is_digit b = is_between 48 57 b

-- what goes on with a name: letters, digits and `_`
unfoldable pub is_name_byte : ℕ → Bool
is_name_byte b = is_letter b || is_digit b

-- what goes on with a number: letters, digits, `_` and `.`
unfoldable pub is_number_byte : ℕ → Bool
is_number_byte b = is_name_byte b || b == 46

-- an octal digit
unfoldable pub is_octal_digit : ℕ → Bool
is_octal_digit b = is_between 48 55 b

-- a hexadecimal digit
unfoldable pub is_hexadecimal_digit : ℕ → Bool
is_hexadecimal_digit b = is_between 48 57 b || is_between 97 102 b || is_between 65 70 b

-- the value of a digit: `0` to `9`, `A` to `F`, `a` to `f`
unfoldable pub digit_value : ℕ → ℕ
digit_value b = if nat_le b 57 then b - 48 else if nat_le b 70 then b - 55 else b - 87

-- a sign of one byte, other than `/`
unfoldable pub is_mark : ℕ → Bool
is_mark b = list_any (λ c. c == b) (codes "[](){}.&*+-~!%<>^|?:;=,")

-- what a piece of a text is by its first byte
unfoldable pub class_of : ℕ → ByteClass
class_of b =
    if is_space b then Space else
    if is_letter b then Letter else
    if is_digit b then Digit else
    if b == 39 || b == 34 then Quote else
    if b == 35 then Hash else
    if b == 47 then Slash else
    if is_mark b then Mark else Other
