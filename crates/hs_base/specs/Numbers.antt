-- Kinds of integers, and what a conversion keeps (C99 6.2.5, 6.3.1.3, 5.2.4.2.1).
use Rattle.std.specs.Prelude.{ℕ, ◌^◌, pos, ℤ, Bool, true, false, unsigned_abs}
use Rattle.std.specs.Int.{int_rem_euclid, int_wrap}
use Rattle.std.specs.Int.{w8, w16, w32, w64}
use Rattle.hs_base.specs.declared.ends.IntKind.{IntKind}
use Rattle.hs_base.specs.declared.ends.IntKind.TheVariants.{I8, U8, I16, U16, I32, U32, I64, U64}

abbrev pub is_signed : IntKind → Bool
is_signed I8 = true
is_signed I16 = true
is_signed I32 = true
is_signed I64 = true
is_signed _ = false

-- the width in bytes
abbrev pub width : IntKind → ℕ
width I8 = 1
width U8 = 1
width I16 = 2
width U16 = 2
width I32 = 4
width U32 = 4
width I64 = 8
width U64 = 8

-- the low bits of a number, as a number from 0 on
abbrev pub low_bits : ℕ → ℤ → ℕ
low_bits bits n = unsigned_abs (int_rem_euclid n (pos (2 ^ bits)))

-- a number converted to a kind: its low bits, read as that kind reads them
abbrev pub wrapped : IntKind → ℤ → ℤ
wrapped I8 n = int_wrap w8 n
wrapped U8 n = pos (low_bits 8 n)
wrapped I16 n = int_wrap w16 n
wrapped U16 n = pos (low_bits 16 n)
wrapped I32 n = int_wrap w32 n
wrapped U32 n = pos (low_bits 32 n)
wrapped I64 n = int_wrap w64 n
wrapped U64 n = pos (low_bits 64 n)
