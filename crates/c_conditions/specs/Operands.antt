-- The operands of conditions (C99 6.10.1): numbers of 64 bits, signed as intmax_t is or unsigned as uintmax_t is. A number is
-- missing where evaluating it overflows, divides by zero or shifts too far.
use Rattle.std.specs.Prelude.{ℕ, ◌^◌, ℤ, pos, negsuc, Bool, not, nat_lt, nat_eq, if◌then◌else◌, Option, Some, None, option_map}
use Rattle.std.specs.Ordering.{int_eq}
use Rattle.std.specs.Int.{w64, cast_unsigned}
use Rattle.c_conditions.specs.declared.operand.Operand.{Operand}
use Rattle.c_conditions.specs.declared.operand.Operand.TheVariants.{Signed, Unsigned}

-- a number, where 64 bits hold it with its sign
abbrev pub held : ℤ → Option ℤ
held (pos n) = if nat_lt n (2 ^ 63) then Some (pos n) else None
held (negsuc n) = if nat_lt n (2 ^ 63) then Some (negsuc n) else None

-- what follows a number, if there is one, and two
abbrev pub from : {A B : Type 0} → Option A → (A → Option B) → Option B
from None next = None
from (Some n) next = next n

abbrev pub from_both : {A B : Type 0} → (A → A → Option B) → Option A → Option A → Option B
from_both rule a c = from a (λ n. from c (λ m. rule n m))

-- 1 or 0, as a test answers it (C99 6.5.3.3, 6.5.8, 6.5.9, 6.5.13, 6.5.14)
abbrev pub truth : Option Bool → Operand
truth None = Signed None
truth (Some holds) = Signed (Some (if holds then pos 1 else pos 0))

-- whether an operand is not zero
abbrev pub is_true : Operand → Option Bool
is_true (Signed a) = option_map (λ n. not (int_eq n (pos 0))) a
is_true (Unsigned a) = option_map (λ n. not (nat_eq n 0)) a

-- an operand as an unsigned number: modulo 2 to the 64 (C99 6.3.1.3)
abbrev pub as_unsigned : Operand → Option ℕ
as_unsigned (Signed a) = option_map (cast_unsigned w64) a
as_unsigned (Unsigned a) = a

-- by how many places an operand shifts: less than 64, and not less than none (C99 6.5.7)
abbrev pub few : ℕ → Option ℕ
few n = if nat_lt n 64 then Some n else None

abbrev pub signed_places : ℤ → Option ℕ
signed_places (pos n) = few n
signed_places (negsuc n) = None

abbrev pub places : Operand → Option ℕ
places (Signed a) = from a signed_places
places (Unsigned a) = from a few
