-- The low bits of a number are less than the power of two. Proved from `Numbers`.
use Rattle.std.proofs.Common.{ℕ, ◌%◌, ◌^◌, ◌<◌, pos, negsuc, ℤ, mod-lt}
use Rattle.std.proofs.Math.Pow.{ones_sub-lt}
use Rattle.std.proofs.lemmas.Nat.{pow_pos}
use Rattle.hs_base.specs.Numbers.{low_bits}

pub low_bits_lt : (n : ℕ) (a : ℤ) → low_bits n a < 2 ^ n
low_bits_lt n (pos a) = mod-lt a (pow_pos n)
low_bits_lt n (negsuc a) = ones_sub-lt n (a % 2 ^ n)
