-- Values of JSON, and how they are written (RFC 8259): in UTF-8, on one line, without a space between them.
use Rattle.std.specs.Prelude.{ℕ, ◌+◌, ◌-◌, ◌==◌, nat_lt, Bool, true, false, cond, List, [], ◌∷◌, ◌++◌, Option, Some, None, codes, decimal, encode_utf8}
use Rattle.std.specs.List.{flat_map}
use Rattle.bstr.specs.Utf8.{lossy_chars}

mutual
  -- a text is any bytes; the name of a member is one of letters, which stand for themselves
  pub data Json : Type 0 where
    Null : Json
    Truth : (holds : Bool) → Json
    Number : (n : ℕ) → Json
    Text : (bytes : List ℕ) → Json
    Array : (items : Items) → Json
    Object : (members : Members) → Json

  pub data Items : Type 0 where
    no_items : Items
    item : (value : Json) → (rest : Items) → Items

  pub data Members : Type 0 where
    no_members : Members
    member : (name : List ℕ) → (value : Json) → (rest : Members) → Members

-- an array of these values
abbrev pub items_of : List Json → Items
items_of [] = no_items
items_of (value ∷ rest) = item value (items_of rest)

-- an object of these members
abbrev pub members_of : List (List ℕ × Json) → Members
members_of [] = no_members
members_of ((name, value) ∷ rest) = member name value (members_of rest)

-- a value, and null where there is none
abbrev pub text_or_null : Option (List ℕ) → Json
text_or_null None = Null
text_or_null (Some bytes) = Text bytes

abbrev pub number_or_null : Option ℕ → Json
number_or_null None = Null
number_or_null (Some n) = Number n

-- a hexadecimal digit
abbrev pub hex_digit : ℕ → ℕ
hex_digit d = cond (nat_lt d 10) (48 + d) (87 + d)

-- a control character, below 32, by its number
abbrev pub control : ℕ → List ℕ
control c =
    cond (nat_lt c 16) (codes "\\u000" ++ hex_digit c ∷ []) (codes "\\u001" ++ hex_digit (c - 16) ∷ [])

-- a character within a string: a quotation mark and a backslash stand behind a backslash, a control character is given by its
-- number, and any other is its bytes in UTF-8
abbrev pub escaped : ℕ → List ℕ
escaped c =
    cond (c == 34) (codes "\\\"") (cond (c == 92) (codes "\\\\") (cond (nat_lt c 32) (control c) (encode_utf8 c)))

-- bytes as a string: their characters, where U+FFFD stands for each longest piece that is no UTF-8
abbrev pub quoted : List ℕ → List ℕ
quoted bytes = codes "\"" ++ (flat_map escaped (lossy_chars bytes) ++ codes "\"")

-- what stands before a value that is not the first
abbrev pub comma_if : Bool → List ℕ
comma_if later = cond later (codes ",") []

abbrev mutual
  pub written : Json → List ℕ
  written Null = codes "null"
  written (Truth holds) = cond holds (codes "true") (codes "false")
  written (Number n) = decimal n
  written (Text bytes) = quoted bytes
  written (Array items) = codes "[" ++ items_written false items
  written (Object members) = codes "{" ++ members_written false members

  -- the items, of which the first follows others or not, and the bracket behind them
  pub items_written : Bool → Items → List ℕ
  items_written later no_items = codes "]"
  items_written later (item value rest) = comma_if later ++ (written value ++ items_written true rest)

  pub members_written : Bool → Members → List ℕ
  members_written later no_members = codes "}"
  members_written later (member name value rest) =
      comma_if later ++ (codes "\"" ++ (name ++ (codes "\":" ++ (written value ++ members_written true rest))))
