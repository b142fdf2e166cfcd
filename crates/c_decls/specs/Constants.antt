-- Integer constants with their types, and the operators on them (C99 6.5, 6.6).
use Rattle.std.specs.Prelude.{ℤ, pos, Bool, if◌then◌else◌, Option}
use Rattle.std.specs.Option.{option_map}
use Rattle.c_types.specs.declared.types.IntType.{IntType}
use Rattle.c_types.specs.declared.types.IntType.TheVariants.{Int}
use Rattle.c_types.specs.Types.{kind_of}
use Rattle.hs_base.specs.declared.ends.IntKind.{IntKind}
use Rattle.hs_base.specs.Numbers.{wrapped}
use Rattle.c_decls.specs.declared.constant.Constant.{Constant}
use Rattle.c_decls.specs.IntegerTypes.{promoted, common_type}

-- a number with a type
abbrev pub typed : IntType → ℤ → Constant
typed ty n = record { ty = ty; value = n }

-- a conversion keeps the low bits
abbrev pub converted : IntType → Constant → Constant
converted ty a = typed ty (wrapped (kind_of ty) a.value)

-- what a test answers: 1 or 0, of type int
abbrev pub truth : Bool → Constant
truth holds = typed Int (if holds then pos 1 else pos 0)

-- an operator on the promoted operand
abbrev pub on_promoted : (IntKind → ℤ → ℤ) → Constant → Constant
on_promoted op a = let ty = promoted a.ty in typed ty (op (kind_of ty) a.value)

-- an operator on operands converted to their common type
abbrev pub on_common : (IntKind → ℤ → ℤ → ℤ) → Constant → Constant → Constant
on_common op a b = let ty = common_type a.ty b.ty in typed ty (op (kind_of ty) a.value b.value)

-- one that has no result for a divisor that is zero
abbrev pub quotient_on_common : (IntKind → ℤ → ℤ → Option ℤ) → Constant → Constant → Option Constant
quotient_on_common op a b = let ty = common_type a.ty b.ty in option_map (typed ty) (op (kind_of ty) a.value b.value)

-- a shift: its type is that of the promoted left operand
abbrev pub shifted : (IntKind → ℤ → ℤ → Option ℤ) → Constant → Constant → Option Constant
shifted op a count = let ty = promoted a.ty in option_map (typed ty) (op (kind_of ty) a.value count.value)

-- a comparison of operands converted to their common type
abbrev pub compared : (ℤ → ℤ → Bool) → Constant → Constant → Constant
compared test a b =
    let kind = kind_of (common_type a.ty b.ty) in truth (test (wrapped kind a.value) (wrapped kind b.value))
