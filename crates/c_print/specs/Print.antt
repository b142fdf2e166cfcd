-- The bytes that an item prints of a number (C99 7.19.6.1 paragraphs 6 and 8).
use Rattle.std.specs.Prelude.{◌≢◌, ◌-◌, ◌+◌, ℕ, ℤ, Bool, cond, List, [], ◌∷◌, ◌++◌, nat_eq, map, length, replicate, unsigned_abs, codes}
use Rattle.std.specs.Int.{is_negative}
use Rattle.std.specs.Int.Digits.{digits_of}
use Rattle.std.specs.Fmt.{digit_glyph, sign_text}
use Rattle.hs_base.specs.Arithmetic.{IsInRange}
use Rattle.c_print.specs.declared.piece.Piece.{Piece}
use Rattle.c_print.specs.declared.piece.Piece.TheVariants.{Plain, Item}
use Rattle.c_print.specs.Length.{is_one_of, HasKind}

-- the digits of a number in a base, the highest first; zero has one digit
abbrev pub numeral_digits : ℕ → ℕ → List ℕ
numeral_digits base n = cond (nat_eq n 0) (0 ∷ []) (digits_of base n)

-- a number written in a base, with capital letters or small ones
unfoldable pub numeral : ℕ → Bool → ℕ → List ℕ
numeral base capital n = map (digit_glyph capital) (numeral_digits base n)

-- a sign and what follows it, filled to a width: by spaces on the right, or zeros behind the sign, or spaces on the left
unfoldable pub field : Bool → Bool → ℕ → List ℕ → List ℕ → List ℕ
field left zeros width sign text =
    let fill = width - (length sign + length text) in
    cond left (sign ++ (text ++ replicate fill 32)) (cond zeros (sign ++ (replicate fill 48 ++ text)) (replicate fill 32 ++ (sign ++ text)))

-- `o` prints in base 8, `x` and `X` in base 16, all others in base 10
abbrev pub base_of : ℕ → ℕ
base_of conv = cond (nat_eq conv 111) 8 (cond (is_one_of (codes "xX") conv) 16 10)

-- `c` prints its number as a byte; capital letters belong to `X`
unfoldable pub item_bytes : Piece → ℤ → List ℕ
item_bytes (Plain text) n = text
item_bytes (Item left zeros width conv kind) n =
    cond (nat_eq conv 99) (field left zeros width [] (unsigned_abs n ∷ [])) (field left zeros width (sign_text (is_negative n)) (numeral (base_of conv) (nat_eq conv 88) (unsigned_abs n)))

-- an item that prints a number, and a number of its kind
abbrev pub TakesNumber : Piece → ℤ → Type 0
TakesNumber (Plain text) n = ⊥
TakesNumber (Item left zeros width conv kind) n = HasKind conv kind × (conv ≢ 115) × IsInRange kind n
