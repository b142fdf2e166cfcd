-- Lists of types as plain data.
use Rattle.std.proofs.Common.{◌≡◌, List, [], ◌∷◌, map, refl, ap}
use Rattle.c_types.specs.Types.{PlainType, PlainTypes, none, first, plain, plain_list}
use Rattle.c_types.specs.declared.types.CType.{CType}

abbrev pub as_types : List PlainType → PlainTypes
as_types [] = none
as_types (type ∷ rest) = first type (as_types rest)

pub as_plain_list : (types : List CType) → as_types (map plain types) ≡ plain_list types
as_plain_list [] = refl
as_plain_list (type ∷ rest) = ap (first (plain type)) (as_plain_list rest)
