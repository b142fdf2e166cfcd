-- Character constants and string literals (C99 6.4.4.4 and 6.4.5).
use Rattle.std.specs.Prelude.{ℕ, zero, suc, ◌+◌, ◌-◌, min, Bool, false, not, ◌==◌, ◌||◌, ◌&&◌, nat_le, if◌then◌else◌, List, [], ◌∷◌, take, drop, Option, Some, None, option_map, codes}
use Rattle.std.specs.List.{list_any, prefix_len}
use Rattle.c_lexer.specs.Bytes.{is_octal_digit, is_hexadecimal_digit}
use Rattle.c_lexer.specs.Numbers.{digits_value}

-- the bytes that a simple escape has behind its backslash
unfoldable pub is_simple_escape : ℕ → Bool
is_simple_escape b = list_any (λ c. c == b) (codes "'\"?\\abfnrtv")

-- the value of a simple escape: a 7, b 8, f 12, n 10, r 13, t 9, v 11, and else the byte itself
unfoldable pub simple_value : ℕ → ℕ
simple_value b =
    if b == 97 then 7 else if b == 98 then 8 else if b == 102 then 12 else if b == 110 then 10 else
    if b == 114 then 13 else if b == 116 then 9 else if b == 118 then 11 else b

-- the length of a hexadecimal escape behind its backslash, with this many digits: at least one is needed
abbrev pub hexadecimal_length : ℕ → ℕ
hexadecimal_length digits = if digits == 0 then 0 else 1 + digits

-- how many bytes the longest escape has that stands behind a backslash, 0 where none does: one byte, one to three
-- octal digits, or `x` and all hexadecimal digits that follow
unfoldable pub escape_length : List ℕ → ℕ
escape_length [] = 0
escape_length (b ∷ w) =
    if is_simple_escape b then 1 else
    if is_octal_digit b then 1 + min 2 (prefix_len is_octal_digit w) else
    if b == 120 then hexadecimal_length (prefix_len is_hexadecimal_digit w) else 0

-- the value of an escape, without its backslash
unfoldable pub escape_value : List ℕ → ℕ
escape_value [] = 0
escape_value (b ∷ w) =
    if is_simple_escape b then simple_value b else
    if is_octal_digit b then digits_value 8 (b ∷ w) else digits_value 16 w

-- the length of an escape of this length that stands behind a backslash, with the backslash, 0 where its value is
-- greater than 255
abbrev pub escaped_length : List ℕ → ℕ → ℕ
escaped_length w n = if not (n == 0) && nat_le (escape_value (take n w)) 255 then 1 + n else 0

-- how many bytes the longest character at the front of a text has, 0 where none does: an escape of a value of at most
-- 255, or a byte other than the quote, the backslash and byte 10
unfoldable pub character_length : ℕ → List ℕ → ℕ
character_length quote [] = 0
character_length quote (b ∷ w) =
    if b == 92 then escaped_length w (escape_length w) else if b == quote || b == 10 then 0 else 1

-- the first byte of a text is this closing quote
abbrev pub begins_with : ℕ → List ℕ → Bool
begins_with quote [] = false
begins_with quote (b ∷ w) = b == quote

-- how many bytes a character constant has behind its opening quote: one character and the closing quote
unfoldable pub constant_end : List ℕ → Option ℕ
constant_end text =
    let n = character_length 39 text in
    if not (n == 0) && begins_with 39 (drop n text) then Some (1 + n) else None

-- how many bytes a string literal has behind its opening quote: characters in turn, each the longest at its place, and
-- the closing quote. The first `inner` bytes of the text belong to a character that began before it.
unfoldable pub string_end : ℕ → List ℕ → Option ℕ
string_end inner [] = None
string_end (suc inner) (b ∷ w) = option_map suc (string_end inner w)
string_end zero (b ∷ w) =
    if b == 34 then Some 1 else
    if character_length 34 (b ∷ w) == 0 then None else
    option_map suc (string_end (character_length 34 (b ∷ w) - 1) w)

-- the value of a character
abbrev pub character_value : List ℕ → ℕ
character_value [] = 0
character_value (b ∷ w) = if b == 92 then escape_value w else b

-- the values of the characters that stand in turn at the front of a text, each the longest at its place. The first
-- `inner` bytes of the text belong to a character that began before it.
unfoldable pub values_from : ℕ → ℕ → List ℕ → List ℕ
values_from quote inner [] = []
values_from quote (suc inner) (b ∷ w) = values_from quote inner w
values_from quote zero (b ∷ w) =
    if character_length quote (b ∷ w) == 0 then [] else
    character_value (take (character_length quote (b ∷ w)) (b ∷ w))
    ∷ values_from quote (character_length quote (b ∷ w) - 1) w

-- the values of the characters of a literal: those behind its opening quote
abbrev pub literal_values : List ℕ → List ℕ
literal_values [] = []
literal_values (quote ∷ w) = values_from quote 0 w
