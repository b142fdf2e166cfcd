-- The bytes that spell the pieces of a format (C99 7.19.6.1, narrowed to integers, characters and strings).
use Rattle.std.specs.Prelude.{◌≡◌, ◌≢◌, ℕ, cond, List, [], ◌∷◌, ◌++◌, All, nat_eq, ◌≤◌, ◌&&◌, codes, false}
use Rattle.std.specs.List.{flat_map}
use Rattle.c_print.specs.declared.piece.Piece.{Piece}
use Rattle.c_print.specs.declared.piece.Piece.TheVariants.{Plain, Item}
use Rattle.c_print.specs.Length.{is_one_of, HasKind}
use Rattle.c_print.specs.Item.{ReadsItem}

-- a percent sign is written twice, every other byte once
abbrev pub plain_byte : ℕ → List ℕ
plain_byte b = cond (nat_eq b 37) (37 ∷ 37 ∷ []) (b ∷ [])

-- a plain byte stands at the front, and this behind it
abbrev pub BeginsPlain : List ℕ → ℕ → List ℕ → Type 0
BeginsPlain bytes b rest = (b ≢ 0) × (bytes ≡ plain_byte b ++ rest)

-- a plain byte stands at the front
abbrev pub GoesOnPlain : List ℕ → Type 0
GoesOnPlain bytes = (b : ℕ) × (rest : List ℕ) × (b ≢ 0) × (bytes ≡ plain_byte b ++ rest)

-- plain bytes as far as they go; none is 0
pub record ReadsPlain (bytes text rest : List ℕ) : Type 0 where
  pub written : bytes ≡ flat_map plain_byte text ++ rest
  pub no_zero : All (λ b. b ≢ 0) text
  pub longest : ¬ GoesOnPlain rest

-- the piece at the front, and what stands behind it
abbrev pub ReadsPiece : List ℕ → Piece → List ℕ → Type 0
ReadsPiece bytes (Plain text) rest = (text ≢ []) × ReadsPlain bytes text rest
ReadsPiece bytes (Item left zeros width conv kind) rest =
    (item : List ℕ) × (bytes ≡ 37 ∷ item) × ReadsItem item left zeros width conv kind rest

-- pieces from the front on, and what stands behind them
abbrev pub ReadsPieces : List ℕ → List Piece → List ℕ → Type 0
ReadsPieces bytes [] rest = bytes ≡ rest
ReadsPieces bytes (piece ∷ pieces) rest =
    (between : List ℕ) × ReadsPiece bytes piece between × ReadsPieces between pieces rest

-- the pieces spell all of the bytes
abbrev pub IsFormat : List ℕ → List Piece → Type 0
IsFormat bytes pieces = ReadsPieces bytes pieces []

-- what holds of each piece of a format
abbrev pub IsGiven : Piece → Type 0
IsGiven (Plain text) = (text ≢ []) × All (λ b. b ≢ 0) text
IsGiven (Item left zeros width conv kind) =
    HasKind conv kind × (width ≤ 4095) × (zeros && is_one_of (codes "cs") conv ≡ false)

-- no percent sign stands at the front, and no piece
abbrev pub HasNoPercent : List ℕ → Type 0
HasNoPercent bytes = (item : List ℕ) → bytes ≢ 37 ∷ item

abbrev pub HasNoPiece : List ℕ → Type 0
HasNoPiece bytes = (piece : Piece) (rest : List ℕ) → ¬ ReadsPiece bytes piece rest

-- bytes are a format in one way at most
abbrev pub FormatsAreOne : Type 0
FormatsAreOne = (bytes : List ℕ) (one other : List Piece) → IsFormat bytes one → IsFormat bytes other → one ≡ other
