-- Integer arithmetic of each kind (C99 6.5.3.3, 6.5.5 to 6.5.7, 6.5.10 to 6.5.12). The operands are converted to the kind
-- first and the result last, so that a result which the kind cannot hold wraps.
use Rattle.std.specs.Prelude.{ℕ, ◌-◌, ◌*◌, ◌^◌, zero, pos, negsuc, ℤ, ◌+ℤ◌, ◌-ℤ◌, ◌*ℤ◌, neg_ℤ, ◌≤ℤ◌, if◌then◌else◌, nat_lt, Option, Some, None, int_div, int_rem, bit_and, bit_or, bit_xor}
use Rattle.std.specs.Option.{option_map}
use Rattle.std.specs.Int.{int_shr}
use Rattle.hs_base.specs.declared.ends.IntKind.{IntKind}
use Rattle.hs_base.specs.Numbers.{is_signed, width, low_bits, wrapped}

-- the width in bits
abbrev pub width_in_bits : IntKind → ℕ
width_in_bits k = 8 * width k

-- the least and the greatest number of a kind
abbrev pub least : IntKind → ℤ
least k = if is_signed k then neg_ℤ (pos (2 ^ (width_in_bits k - 1))) else pos 0

abbrev pub greatest : IntKind → ℤ
greatest k = pos (if is_signed k then 2 ^ (width_in_bits k - 1) - 1 else 2 ^ width_in_bits k - 1)

-- a number lies from the least to the greatest of a kind
abbrev pub IsInRange : IntKind → ℤ → Type 0
IsInRange k n = (least k ≤ℤ n) × (n ≤ℤ greatest k)

-- the bits of a number converted to a kind, as a number from 0 on
abbrev pub bits_of : IntKind → ℤ → ℕ
bits_of k n = low_bits (width_in_bits k) n

-- a number with its sign changed, and one with each bit changed (C99 6.5.3.3)
abbrev pub negation_of : IntKind → ℤ → ℤ
negation_of k a = wrapped k (neg_ℤ (wrapped k a))

abbrev pub complement_of : IntKind → ℤ → ℤ
complement_of k a = wrapped k (pos (2 ^ width_in_bits k - 1 - bits_of k a))

-- a sum, a difference and a product (C99 6.5.5, 6.5.6)
abbrev pub sum_of : IntKind → ℤ → ℤ → ℤ
sum_of k a b = wrapped k (wrapped k a +ℤ wrapped k b)

abbrev pub difference_of : IntKind → ℤ → ℤ → ℤ
difference_of k a b = wrapped k (wrapped k a -ℤ wrapped k b)

abbrev pub product_of : IntKind → ℤ → ℤ → ℤ
product_of k a b = wrapped k (wrapped k a *ℤ wrapped k b)

-- a result for a divisor: there is none for the divisor 0
abbrev pub for_divisor : ℤ → ℤ → Option ℤ
for_divisor (pos zero) n = None
for_divisor _ n = Some n

-- the quotient, rounded toward zero, and the remainder, which has the sign of the dividend (C99 6.5.5)
abbrev pub quotient_of : IntKind → ℤ → ℤ → Option ℤ
quotient_of k a b = for_divisor (wrapped k b) (wrapped k (int_div (wrapped k a) (wrapped k b)))

abbrev pub remainder_of : IntKind → ℤ → ℤ → Option ℤ
remainder_of k a b = for_divisor (wrapped k b) (wrapped k (int_rem (wrapped k a) (wrapped k b)))

-- the bits that both have, that one or both have, and that one alone has (C99 6.5.10 to 6.5.12)
abbrev pub and_of : IntKind → ℤ → ℤ → ℤ
and_of k a b = wrapped k (pos (bit_and (bits_of k a) (bits_of k b)))

abbrev pub or_of : IntKind → ℤ → ℤ → ℤ
or_of k a b = wrapped k (pos (bit_or (bits_of k a) (bits_of k b)))

abbrev pub xor_of : IntKind → ℤ → ℤ → ℤ
xor_of k a b = wrapped k (pos (bit_xor (bits_of k a) (bits_of k b)))

-- by how many places a count shifts, if it is from 0 to below the width: the count is not converted (C99 6.5.7)
abbrev pub places_of : IntKind → ℤ → Option ℕ
places_of k (pos n) = if nat_lt n (width_in_bits k) then Some n else None
places_of k (negsuc n) = None

-- a number times a power of two, and one divided by a power of two and rounded down (C99 6.5.7)
abbrev pub left_shift_of : IntKind → ℤ → ℤ → Option ℤ
left_shift_of k a count = option_map (λ n. wrapped k (wrapped k a *ℤ pos (2 ^ n))) (places_of k count)

abbrev pub right_shift_of : IntKind → ℤ → ℤ → Option ℤ
right_shift_of k a count = option_map (λ n. wrapped k (int_shr (wrapped k a) n)) (places_of k count)
