-- The types of integers in expressions: promotions, the usual arithmetic conversions, and the type of a number
-- (C99 6.3.1.1, 6.3.1.8, 6.4.4.1).
use Rattle.std.specs.Prelude.{ℕ, pos, Bool, if◌then◌else◌, nat_lt, nat_le, int_le, List, map, Option}
use Rattle.std.specs.List.{find}
use Rattle.c_types.specs.declared.types.IntType.{IntType}
use Rattle.c_types.specs.declared.types.IntType.TheVariants.{Char, SChar, UChar, Short, UShort, Int, UInt, Long, ULong, LongLong, ULongLong}
use Rattle.c_types.specs.Types.{kind_of, width_of}
use Rattle.hs_base.specs.Numbers.{is_signed}
use Rattle.c_lexer.specs.declared.number.Base.{Base}
use Rattle.c_lexer.specs.declared.number.Suffix.{Suffix}
use Rattle.c_lexer.specs.Numbers as numbers
use Rattle.c_lexer.specs.Numbers.{NumberType, types_of}
use Rattle.hs_base.specs.Arithmetic.{greatest}

-- the rank of a type: long is above int, though both have 32 bits
abbrev pub rank : IntType → ℕ
rank Char = 1
rank SChar = 1
rank UChar = 1
rank Short = 2
rank UShort = 2
rank Int = 3
rank UInt = 3
rank Long = 4
rank ULong = 4
rank LongLong = 5
rank ULongLong = 5

-- whether a type has negative numbers
abbrev pub has_sign : IntType → Bool
has_sign ty = is_signed (kind_of ty)

-- the integer promotions: int holds every value of a type of a lower rank
abbrev pub promoted : IntType → IntType
promoted ty = if nat_lt (rank ty) (rank Int) then Int else ty

-- the unsigned type that corresponds to a type
abbrev pub unsigned_of : IntType → IntType
unsigned_of Char = UChar
unsigned_of SChar = UChar
unsigned_of UChar = UChar
unsigned_of Short = UShort
unsigned_of UShort = UShort
unsigned_of Int = UInt
unsigned_of UInt = UInt
unsigned_of Long = ULong
unsigned_of ULong = ULong
unsigned_of LongLong = ULongLong
unsigned_of ULongLong = ULongLong

-- of two types that both have a sign, or both have none: the one of the greater rank
abbrev pub higher : IntType → IntType → IntType
higher a b = if nat_lt (rank a) (rank b) then b else a

-- of a type with a sign and one without: the unsigned one, if its rank is not lower; else the signed one, if it holds
-- every value of the other; else the unsigned type that corresponds to the signed one
abbrev pub mixed : IntType → IntType → IntType
mixed signed unsigned =
    if nat_le (rank signed) (rank unsigned) then unsigned
    else if nat_lt (width_of unsigned) (width_of signed) then signed
    else unsigned_of signed

-- the common type of two promoted types
abbrev pub common_of_promoted : IntType → IntType → IntType
common_of_promoted a b =
    if has_sign a then (if has_sign b then higher a b else mixed a b)
    else (if has_sign b then mixed b a else higher a b)

-- the usual arithmetic conversions
abbrev pub common_type : IntType → IntType → IntType
common_type a b = common_of_promoted (promoted a) (promoted b)

-- the types that a number may have, as integer types
abbrev pub integer_type : NumberType → IntType
integer_type numbers.Int = Int
integer_type numbers.Unsigned = UInt
integer_type numbers.Long = Long
integer_type numbers.UnsignedLong = ULong
integer_type numbers.LongLong = LongLong
integer_type numbers.UnsignedLongLong = ULongLong

-- whether a type holds a number from 0 on
abbrev pub holds : IntType → ℕ → Bool
holds ty value = int_le (pos value) (greatest (kind_of ty))

-- the types that a number may have, in the order in which they are tried
abbrev pub number_types : Base → Suffix → List IntType
number_types base suffix = map integer_type (types_of base suffix)

-- the type of a number: the first of its list that holds its value
abbrev pub number_type : Base → Suffix → ℕ → Option IntType
number_type base suffix value = find (λ ty. holds ty value) (number_types base suffix)
