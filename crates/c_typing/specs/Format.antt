-- Formats as the code reads them: piece by piece from the front.
use Rattle.std.specs.Prelude.{ℕ, Bool, true, false, not, ◌&&◌, ◌==◌, cond, codes, List, [], ◌∷◌, length, drop, slice_index, unwrap_or, is_some, Option, Some, None}
use Rattle.hs_base.specs.declared.ends.IntKind.{IntKind}
use Rattle.hs_base.specs.declared.ends.IntKind.TheVariants.{I32}
use Rattle.hs_base.specs.Numbers.{width}
use Rattle.c_print.specs.Length.{length_bytes, is_one_of, kind_of}
use Rattle.c_print.specs.Pieces.{length_at}
use Rattle.c_decls.specs.Callees.{behind_digits, behind_length, is_item}
use Rattle.c_types.specs.declared.types.IntType.{IntType}
use Rattle.c_types.specs.declared.types.IntType.TheVariants as i
use Rattle.c_types.specs.Types.{PlainType, Int}
use Rattle.c_typing.specs.declared.formats.Item.{Item as CodeItem}
use Rattle.c_typing.specs.declared.formats.Front.{Front as CodeFront}
use Rattle.c_typing.specs.declared.formats.Front.TheVariants as f

-- what an item wants of its argument: its conversion, and how many bytes the kind of its number has
pub record Wanted : Type 0 where
  pub conversion : ℕ
  pub bytes : ℕ

abbrev pub plain_item : CodeItem → Wanted
plain_item item = record { conversion = item.conversion; bytes = item.width }

-- what stands at the front of a format, with the bytes behind it
pub data Front : Type 0 where
  End : Front
  Bad : Front
  Plain : (rest : List ℕ) → Front
  Item : (item : Wanted) (rest : List ℕ) → Front

abbrev pub plain_front : CodeFront → Front
plain_front f.End = End
plain_front f.Bad = Bad
plain_front (f.Plain rest) = Plain rest.now
plain_front (f.Item item rest) = Item (plain_item item) rest.now

-- the conversion with which some bytes begin, of this kind
abbrev pub converted_at : Option IntKind → List ℕ → Front
converted_at kind bytes =
    Item (record { conversion = slice_index bytes 0; bytes = width (unwrap_or kind I32) }) (drop 1 bytes)

-- the same where it has a kind, and is not one of `c` and `s` behind a zero
abbrev pub converted_if : Option IntKind → List ℕ → Bool → Front
converted_if kind bytes is_filled =
    cond (is_some kind && not (is_filled && is_one_of (codes "cs") (slice_index bytes 0))) (converted_at kind bytes) Bad

abbrev pub behind_length_of : List ℕ → List ℕ
behind_length_of bytes = drop (length (length_bytes (length_at bytes))) bytes

-- a length and a conversion
abbrev pub conversion_front : List ℕ → Bool → Front
conversion_front bytes is_filled =
    converted_if (kind_of (length_at bytes) (slice_index (behind_length_of bytes) 0)) (behind_length_of bytes) is_filled

-- an item behind its percent sign, of which it is known that it has its form
abbrev pub item_front : List ℕ → Front
item_front bytes =
    converted_at (kind_of (length_at (behind_digits bytes)) (slice_index (behind_length bytes) 0)) (behind_length bytes)

abbrev pub front_of : List ℕ → Front
front_of [] = End
front_of (b ∷ rest) =
    cond (b == 0) Bad
    (cond (not (b == 37)) (Plain rest)
    (cond (slice_index rest 0 == 37) (Plain (drop 1 rest)) (cond (is_item rest) (item_front rest) Bad)))

-- a character type
abbrev pub is_character : IntType → Bool
is_character i.Char = true
is_character i.SChar = true
is_character i.UChar = true
is_character _ = false

abbrev pub is_text : PlainType → Bool
is_text (Int int) = is_character int
is_text _ = false
