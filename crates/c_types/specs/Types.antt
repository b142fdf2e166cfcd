-- C types without where they lie in memory.
use Rattle.std.specs.Prelude.{ℕ, List, [], ◌∷◌}
use Rattle.c_types.specs.declared.types.IntType.{IntType}
use Rattle.c_types.specs.declared.types.IntType.TheVariants as i
use Rattle.hs_base.specs.declared.ends.IntKind.{IntKind}
use Rattle.hs_base.specs.declared.ends.IntKind.TheVariants.{I8, U8, I16, U16, I32, U32, I64, U64}
use Rattle.c_types.specs.declared.types.CType.{CType, Row_of-CType, end_of-CType, more_of-CType}
use Rattle.c_types.specs.declared.types.CType.TheVariants as c
use Rattle.c_types.specs.declared.types.Signature.{Signature}

-- the sign and the width of an integer type; char has a sign
abbrev pub kind_of : IntType → IntKind
kind_of i.Char = I8
kind_of i.SChar = I8
kind_of i.UChar = U8
kind_of i.Short = I16
kind_of i.UShort = U16
kind_of i.Int = I32
kind_of i.UInt = U32
kind_of i.Long = I32
kind_of i.ULong = U32
kind_of i.LongLong = I64
kind_of i.ULongLong = U64

-- the size of an integer type in bytes
abbrev pub width_of : IntType → ℕ
width_of i.Char = 1
width_of i.SChar = 1
width_of i.UChar = 1
width_of i.Short = 2
width_of i.UShort = 2
width_of i.Int = 4
width_of i.UInt = 4
width_of i.Long = 4
width_of i.ULong = 4
width_of i.LongLong = 8
width_of i.ULongLong = 8

mutual
  pub data PlainType : Type 0 where
    Void : PlainType
    Int : (int : IntType) → PlainType
    Pointer : (target : PlainType) → PlainType
    Array : (element : PlainType) (length : ℕ) → PlainType
    Struct : (tag : ℕ) → PlainType
    Union : (tag : ℕ) → PlainType
    Function : (answer : PlainType) (params : PlainTypes) → PlainType

  pub data PlainTypes : Type 0 where
    none : PlainTypes
    first : (type : PlainType) (rest : PlainTypes) → PlainTypes

abbrev mutual
  -- the type as plain data
  pub plain : CType → PlainType
  plain c.Void = Void
  plain (c.Int int) = Int int
  plain (c.Pointer' p target) = Pointer (plain target)
  plain (c.Array' p element length) = Array (plain element) length
  plain (c.Struct tag) = Struct tag
  plain (c.Union tag) = Union tag
  plain (c.Function' p answer shape params) = Function (plain answer) (plain_row params)

  pub plain_row : {n : _} → Row_of-CType n → PlainTypes
  plain_row end_of-CType = none
  plain_row (more_of-CType type rest) = first (plain type) (plain_row rest)

-- the types of a list, in order
abbrev pub plain_list : List CType → PlainTypes
plain_list [] = none
plain_list (type ∷ rest) = first (plain type) (plain_list rest)

-- the type of functions with that result and those parameters
abbrev pub plain_signature : Signature → PlainType
plain_signature signature = Function (plain signature.result) (plain_list signature.params.items)
