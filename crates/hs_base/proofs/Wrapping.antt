-- Conversion to a kind: numbers that differ by a multiple of two to the kind's width are converted alike.
use Rattle.std.proofs.Common.{◌≡◌, ℕ, ◌+◌, ◌-◌, ◌*◌, ◌/◌, ◌%◌, ◌^◌, ◌<◌, ◌≤◌, Bool, true, false, cond, refl, sym, ap, subst, ◌∙◌, arith, lit≤, suc, ⊎_elim}
use Rattle.std.specs.Prelude.{ℤ, pos, negsuc, ◌+ℤ◌, ◌-ℤ◌, ◌*ℤ◌, neg_ℤ, unsigned_abs, nat_lt, FitsSigned, ◌≤ℤ◌, ◌<ℤ◌}
use Rattle.std.specs.Int.{Width, w8, w16, w32, w64, w128, int_rem_euclid, int_wrap, cast_signed, cast_unsigned}
use Rattle.std.proofs.lemmas.Int.{ints, int_rem_euclid_is, int_wrap_fits, SFits-int_wrap}
use Rattle.std.proofs.lemmas.Nat.{pow_pos, pow-add, div-add-mod'}
use Rattle.std.proofs.Math.Nat.{mul-le-mul_left, mul-le-mul_right, mod-lt, mod-eq_of_lt}
use Rattle.std.proofs.Math.Arith.{digits_mod}
use Rattle.std.proofs.lemmas.Bool.{cases_lt}
use borrow.Author.Differences.{up, down, same_in, same_out, sum_is_lem, neg_is, product_is}
use mir.Val.{bits, hbits}
use Rattle.hs_base.specs.declared.ends.IntKind.{IntKind}
use Rattle.hs_base.specs.declared.ends.IntKind.TheVariants.{I8, U8, I16, U16, I32, U32, I64, U64}
use Rattle.hs_base.specs.Numbers.{low_bits, wrapped}
use Rattle.hs_base.specs.NumbersEquations.{low_bits_lt}
use Rattle.hs_base.specs.Arithmetic.{width_in_bits, bits_of, complement_of, IsInRange}

-- a and b differ by a multiple of m
pub record IsCongruent (m : ℕ) (a b : ℤ) : Type 0 where
  pub left : ℕ
  pub right : ℕ
  pub same : a +ℤ pos (left * m) ≡ b +ℤ pos (right * m)

pub congruent_refl : (m : ℕ) (a : ℤ) → IsCongruent m a a
congruent_refl m a = record { left = 0; right = 0; same = refl }

pub congruent_sym : {m : ℕ} {a b : ℤ} → IsCongruent m a b → IsCongruent m b a
congruent_sym c = record { left = c.right; right = c.left; same = sym c.same }

pub congruent_trans : {m : ℕ} {a b c : ℤ} → IsCongruent m a b → IsCongruent m b c → IsCongruent m a c
congruent_trans p q = record { left = p.left + q.left; right = p.right + q.right; same = omega (arith, same_in, same_out, sum_is_lem, p.same, q.same) }

pub congruent_sum : {m : ℕ} {a b c d : ℤ} → IsCongruent m a b → IsCongruent m c d → IsCongruent m (a +ℤ c) (b +ℤ d)
congruent_sum p q = record { left = p.left + q.left; right = p.right + q.right; same = omega (arith, same_in, same_out, sum_is_lem, p.same, q.same) }

pub congruent_difference : {m : ℕ} {a b c d : ℤ} → IsCongruent m a b → IsCongruent m c d → IsCongruent m (a -ℤ c) (b -ℤ d)
congruent_difference p q = record { left = p.left + q.right; right = p.right + q.left; same = omega (arith, same_in, same_out, sum_is_lem, neg_is, p.same, q.same) }

pub congruent_negation : {m : ℕ} {a b : ℤ} → IsCongruent m a b → IsCongruent m (neg_ℤ a) (neg_ℤ b)
congruent_negation p = record { left = p.right; right = p.left; same = omega (arith, same_in, same_out, sum_is_lem, neg_is, p.same) }

-- a factor on the right
scaled : {m : ℕ} {a b : ℤ} (c : ℤ) → IsCongruent m a b → IsCongruent m (a *ℤ c) (b *ℤ c)
scaled {m} {a} {b} c p =
    let sum : up a + p.left * m + down b ≡ up b + p.right * m + down a = omega (arith, same_out, sum_is_lem, p.same) in
    let above = ap (λ x. x * up c) sum in
    let below = ap (λ x. x * down c) sum in
    record { left = p.left * up c + p.right * down c; right = p.right * up c + p.left * down c; same = omega (arith, same_in, sum_is_lem, product_is) }

times_comm : (a b : ℤ) → a *ℤ b ≡ b *ℤ a
times_comm a b = omega (arith, same_in, product_is)

pub congruent_product : {m : ℕ} {a b c d : ℤ} → IsCongruent m a b → IsCongruent m c d → IsCongruent m (a *ℤ c) (b *ℤ d)
congruent_product {m} {a} {b} {c} {d} p q =
    congruent_trans (scaled c p) (subst (λ x. IsCongruent m x (b *ℤ d)) (times_comm c b) (subst (λ x. IsCongruent m (c *ℤ b) x) (times_comm d b) (scaled b q)))

-- a multiple of a multiple is a multiple
pub congruent_narrower : (c m : ℕ) {a b : ℤ} → IsCongruent (c * m) a b → IsCongruent m a b
congruent_narrower c m p = record { left = p.left * c; right = p.right * c; same = omega (arith, same_in, same_out, sum_is_lem, p.same) }

two_powers : (n m : ℕ) → n ≤ m → 2 ^ (m - n) * 2 ^ n ≡ 2 ^ m
two_powers n m h = let split : m - n + n ≡ m = omega arith in sym (pow-add 2 (m - n) n) ∙ ap (λ e. 2 ^ e) split

pub congruent_fewer_bits : (n m : ℕ) {a b : ℤ} → n ≤ m → IsCongruent (2 ^ m) a b → IsCongruent (2 ^ n) a b
congruent_fewer_bits n m {a} {b} h p = congruent_narrower (2 ^ (m - n)) (2 ^ n) (subst (λ x. IsCongruent x a b) (sym (two_powers n m h)) p)

-- ---- remainders

pub congruent_rem : (m : ℕ) → 0 < m → (a : ℤ) → IsCongruent m (pos (unsigned_abs (int_rem_euclid a (pos m)))) a
congruent_rem m p (pos a) = record { left = a / m; right = 0; same = omega (arith, same_in, sum_is_lem, div-add-mod' a m) }
congruent_rem m p (negsuc a) =
    let small = mod-lt a p in
    record { left = 0; right = a / m + 1; same = omega (arith, same_in, sum_is_lem, div-add-mod' a m) }

pub rem_same : (m : ℕ) → 0 < m → (a b : ℤ) → IsCongruent m a b → int_rem_euclid a (pos m) ≡ int_rem_euclid b (pos m)
rem_same m some a b p =
    let t = down a + down b in
    let far : t * 1 ≤ t * m = mul-le-mul_left t some in
    let n = up a + (p.left + t) * m - down a in
    let from : (z : ℤ) (i : ℕ) → z +ℤ pos ((i + t) * m) ≡ pos n → int_rem_euclid z (pos m) ≡ pos (n % m) = λ z i h. int_rem_euclid_is z (pos m) m (i + t) n some refl h in
    from a p.left (omega (arith, ints)) ∙ sym (from b p.right (omega (arith, ints, p.same)))

-- ---- low bits

pub low_bits_same : (n : ℕ) (a b : ℤ) → IsCongruent (2 ^ n) a b → low_bits n a ≡ low_bits n b
low_bits_same n a b p = ap unsigned_abs (rem_same (2 ^ n) (pow_pos n) a b p)

pub congruent_low_bits : (n : ℕ) (a : ℤ) → IsCongruent (2 ^ n) (pos (low_bits n a)) a
congruent_low_bits n a = congruent_rem (2 ^ n) (pow_pos n) a

fits_twice : (w : Width) (n : ℕ) → n < 2 ^ hbits w → n < 2 ^ bits w
fits_twice w8 n h = omega arith
fits_twice w16 n h = omega arith
fits_twice w32 n h = omega arith
fits_twice w64 n h = omega arith
fits_twice w128 n h = omega arith

-- the bits n, read as a signed number, and n
pub congruent_cast : (w : Width) (n : ℕ) → n < 2 ^ bits w → IsCongruent (2 ^ bits w) (cast_signed w n) (pos n)
congruent_cast w n h = by (nat_lt n (2 ^ hbits w))
  where
    by : (t : Bool) → IsCongruent (2 ^ bits w) (cond t (pos n) (negsuc (2 ^ bits w - suc n))) (pos n)
    by true = congruent_refl _ _
    by false = record { left = 1; right = 0; same = omega (arith, same_in, sum_is_lem) }

-- a number that fits a signed type, and its bits
pub congruent_bits : (w : Width) (z : ℤ) → FitsSigned w z → IsCongruent (2 ^ bits w) (pos (cast_unsigned w z)) z
congruent_bits w (pos n) f = congruent_refl _ _
congruent_bits w (negsuc n) f = let fits : n < 2 ^ bits w = fits_twice w n f.sfits in record { left = 0; right = 1; same = omega (arith, same_in, sum_is_lem) }

-- what is left of a number at a signed type
pub congruent_int_wrap : (w : Width) (z : ℤ) → IsCongruent (2 ^ bits w) (int_wrap w z) z
unfolding int_wrap
congruent_int_wrap w z = congruent_trans (congruent_cast w _ (low_bits_lt (bits w) z)) (congruent_low_bits (bits w) z)

-- ---- kinds

pub width_in_bits_le : (k : IntKind) → width_in_bits k ≤ 128
width_in_bits_le I8 = lit≤ tt
width_in_bits_le U8 = lit≤ tt
width_in_bits_le I16 = lit≤ tt
width_in_bits_le U16 = lit≤ tt
width_in_bits_le I32 = lit≤ tt
width_in_bits_le U32 = lit≤ tt
width_in_bits_le I64 = lit≤ tt
width_in_bits_le U64 = lit≤ tt

pub congruent_wrapped : (k : IntKind) (n : ℤ) → IsCongruent (2 ^ width_in_bits k) (wrapped k n) n
congruent_wrapped I8 n = congruent_int_wrap w8 n
congruent_wrapped U8 n = congruent_low_bits 8 n
congruent_wrapped I16 n = congruent_int_wrap w16 n
congruent_wrapped U16 n = congruent_low_bits 16 n
congruent_wrapped I32 n = congruent_int_wrap w32 n
congruent_wrapped U32 n = congruent_low_bits 32 n
congruent_wrapped I64 n = congruent_int_wrap w64 n
congruent_wrapped U64 n = congruent_low_bits 64 n

int_wrap_same : (w : Width) (a b : ℤ) → IsCongruent (2 ^ bits w) a b → int_wrap w a ≡ int_wrap w b
unfolding int_wrap
int_wrap_same w a b p = ap (cast_signed w) (low_bits_same (bits w) a b p)

pub wrapped_same : (k : IntKind) (a b : ℤ) → IsCongruent (2 ^ width_in_bits k) a b → wrapped k a ≡ wrapped k b
wrapped_same I8 a b p = int_wrap_same w8 a b p
wrapped_same U8 a b p = ap pos (low_bits_same 8 a b p)
wrapped_same I16 a b p = int_wrap_same w16 a b p
wrapped_same U16 a b p = ap pos (low_bits_same 16 a b p)
wrapped_same I32 a b p = int_wrap_same w32 a b p
wrapped_same U32 a b p = ap pos (low_bits_same 32 a b p)
wrapped_same I64 a b p = int_wrap_same w64 a b p
wrapped_same U64 a b p = ap pos (low_bits_same 64 a b p)

-- what is left of a number in 128 bits converts as the number does
pub wrapped_wide : (k : IntKind) (z : ℤ) → wrapped k (int_wrap w128 z) ≡ wrapped k z
wrapped_wide k z = wrapped_same k (int_wrap w128 z) z (congruent_fewer_bits (width_in_bits k) 128 (width_in_bits_le k) (congruent_int_wrap w128 z))

-- to convert twice is to convert once
pub wrapped_again : (k : IntKind) (n : ℤ) → wrapped k (wrapped k n) ≡ wrapped k n
wrapped_again k n = wrapped_same k (wrapped k n) n (congruent_wrapped k n)

pub wrapped_negation : (k : IntKind) (a : ℤ) → wrapped k (neg_ℤ a) ≡ wrapped k (neg_ℤ (wrapped k a))
wrapped_negation k a = wrapped_same k _ _ (congruent_sym (congruent_negation (congruent_wrapped k a)))

-- a sum, a difference and a product of numbers and of what they convert to
pub wrapped_sum : (k : IntKind) (a b : ℤ) → wrapped k (a +ℤ b) ≡ wrapped k (wrapped k a +ℤ wrapped k b)
wrapped_sum k a b = wrapped_same k _ _ (congruent_sym (congruent_sum (congruent_wrapped k a) (congruent_wrapped k b)))

pub wrapped_difference : (k : IntKind) (a b : ℤ) → wrapped k (a -ℤ b) ≡ wrapped k (wrapped k a -ℤ wrapped k b)
wrapped_difference k a b = wrapped_same k _ _ (congruent_sym (congruent_difference (congruent_wrapped k a) (congruent_wrapped k b)))

pub wrapped_product : (k : IntKind) (a b : ℤ) → wrapped k (a *ℤ b) ≡ wrapped k (wrapped k a *ℤ wrapped k b)
wrapped_product k a b = wrapped_same k _ _ (congruent_sym (congruent_product (congruent_wrapped k a) (congruent_wrapped k b)))

-- ---- ranges

-- a conversion gives a number of the kind
pub in_range_wrapped : (k : IntKind) (n : ℤ) → IsInRange k (wrapped k n)
in_range_wrapped I8 n = let f = SFits-int_wrap w8 n in (omega (arith, ints), omega (arith, ints))
in_range_wrapped U8 n = let f = low_bits_lt 8 n in (omega (arith, ints), omega (arith, ints))
in_range_wrapped I16 n = let f = SFits-int_wrap w16 n in (omega (arith, ints), omega (arith, ints))
in_range_wrapped U16 n = let f = low_bits_lt 16 n in (omega (arith, ints), omega (arith, ints))
in_range_wrapped I32 n = let f = SFits-int_wrap w32 n in (omega (arith, ints), omega (arith, ints))
in_range_wrapped U32 n = let f = low_bits_lt 32 n in (omega (arith, ints), omega (arith, ints))
in_range_wrapped I64 n = let f = SFits-int_wrap w64 n in (omega (arith, ints), omega (arith, ints))
in_range_wrapped U64 n = let f = low_bits_lt 64 n in (omega (arith, ints), omega (arith, ints))

low_bits_small : (n : ℕ) (z : ℤ) → pos 0 ≤ℤ z → z <ℤ pos (2 ^ n) → pos (low_bits n z) ≡ z
low_bits_small n (pos m) h small = let p : m < 2 ^ n = omega (arith, ints) in ap pos (mod-eq_of_lt p)
low_bits_small n (negsuc m) h small = absurd (omega (arith, ints))

-- and a number of the kind stays as it is
pub wrapped_in_range : (k : IntKind) (n : ℤ) → IsInRange k n → wrapped k n ≡ n
wrapped_in_range I8 n h = int_wrap_fits w8 n (omega (arith, ints, h.0, h.1))
wrapped_in_range U8 n h = low_bits_small 8 n h.0 (omega (arith, ints, h.0, h.1))
wrapped_in_range I16 n h = int_wrap_fits w16 n (omega (arith, ints, h.0, h.1))
wrapped_in_range U16 n h = low_bits_small 16 n h.0 (omega (arith, ints, h.0, h.1))
wrapped_in_range I32 n h = int_wrap_fits w32 n (omega (arith, ints, h.0, h.1))
wrapped_in_range U32 n h = low_bits_small 32 n h.0 (omega (arith, ints, h.0, h.1))
wrapped_in_range I64 n h = int_wrap_fits w64 n (omega (arith, ints, h.0, h.1))
wrapped_in_range U64 n h = low_bits_small 64 n h.0 (omega (arith, ints, h.0, h.1))

-- ---- bits

pub bits_lt : (z : ℤ) → FitsSigned w128 z → cast_unsigned w128 z < 2 ^ 128
bits_lt (pos n) f = fits_twice w128 n f.sfits
bits_lt (negsuc n) f = omega arith

-- the low bits of a number are those of its 128 bits
pub low_bits_from : (n : ℕ) → n ≤ 128 → (z : ℤ) → FitsSigned w128 z → cast_unsigned w128 z % 2 ^ n ≡ low_bits n z
low_bits_from n h z f = low_bits_same n (pos (cast_unsigned w128 z)) z (congruent_fewer_bits n 128 h (congruent_bits w128 z f))

-- bits that are read as a signed number convert as their low bits do
pub wrapped_cast : (k : IntKind) (m : ℕ) → m < 2 ^ 128 → wrapped k (cast_signed w128 m) ≡ wrapped k (pos (m % 2 ^ width_in_bits k))
wrapped_cast k m h =
    wrapped_same k (cast_signed w128 m) (pos m) (congruent_fewer_bits (width_in_bits k) 128 (width_in_bits_le k) (congruent_cast w128 m h))
    ∙ wrapped_same k (pos m) (pos (m % 2 ^ width_in_bits k)) (congruent_sym (congruent_low_bits (width_in_bits k) (pos m)))

-- an operation on bits that keeps its low bits to the low bits of its operands
module _ (op : ℕ → ℕ → ℕ) (fits : (n a b : ℕ) → a < 2 ^ n → b < 2 ^ n → op a b < 2 ^ n) (low : (a b n : ℕ) → op a b % 2 ^ n ≡ op (a % 2 ^ n) (b % 2 ^ n)) where
  pub wrapped_bitwise : (k : IntKind) (a b : ℤ) → FitsSigned w128 a → FitsSigned w128 b → wrapped k (cast_signed w128 (op (cast_unsigned w128 a) (cast_unsigned w128 b))) ≡ wrapped k (pos (op (bits_of k a) (bits_of k b)))
  wrapped_bitwise k a b f g =
      let n = width_in_bits k in
      wrapped_cast k (op (cast_unsigned w128 a) (cast_unsigned w128 b)) (fits 128 _ _ (bits_lt a f) (bits_lt b g))
      ∙ ap (λ m. wrapped k (pos m)) (low (cast_unsigned w128 a) (cast_unsigned w128 b) n ∙ (λ i. op (low_bits_from n (width_in_bits_le k) a f i) (low_bits_from n (width_in_bits_le k) b g i)))

-- all bits turned, of a number with more bits: its low bits are turned too
turned : (p m x : ℕ) → 0 < m → x < p * m → (p * m - 1 - x) % m ≡ m - 1 - x % m
turned p m x some h =
    let split = div-add-mod' x m in
    let small = mod-lt x some in
    let more : x / m < p = ⊎_elim (λ l. l) (λ l. absurd (omega (arith, mul-le-mul_right m l))) (cases_lt (x / m) p) in
    let j = p - suc (x / m) in
    let sum : p ≡ suc (x / m) + j = omega arith in
    let times = ap (λ y. y * m) sum in
    let is : p * m - 1 - x ≡ j * m + (m - 1 - x % m) = omega arith in
    ap (λ y. y % m) is ∙ digits_mod j (omega arith)

pub wrapped_complement : (k : IntKind) (a : ℤ) → FitsSigned w128 a → wrapped k (cast_signed w128 (2 ^ 128 - 1 - cast_unsigned w128 a)) ≡ complement_of k a
wrapped_complement k a f =
    let n = width_in_bits k in
    let x = cast_unsigned w128 a in
    let small : x < 2 ^ 128 = bits_lt a f in
    let narrow : n ≤ 128 = width_in_bits_le k in
    let power : 2 ^ (128 - n) * 2 ^ n ≡ 2 ^ 128 = two_powers n 128 narrow in
    wrapped_cast k (2 ^ 128 - 1 - x) (omega arith)
    ∙ ap (λ m. wrapped k (pos m)) (ap (λ y. (y - 1 - x) % 2 ^ n) (sym power) ∙ turned (2 ^ (128 - n)) (2 ^ n) x (pow_pos n) (subst (λ y. x < y) (sym power) small) ∙ ap (λ y. 2 ^ n - 1 - y) (low_bits_from n narrow a f))

-- a shift to the left that loses what 128 bits do not hold
pub wrapped_shifted : (k : IntKind) (a : ℤ) (places : ℕ) → FitsSigned w128 a → wrapped k (cast_signed w128 (cast_unsigned w128 a * 2 ^ places % 2 ^ 128)) ≡ wrapped k (wrapped k a *ℤ pos (2 ^ places))
wrapped_shifted k a places f =
    let y = cast_unsigned w128 a * 2 ^ places in
    let factor = pos (2 ^ places) in
    wrapped_same k _ _ (congruent_trans (congruent_fewer_bits (width_in_bits k) 128 (width_in_bits_le k)
    (congruent_trans (congruent_cast w128 (y % 2 ^ 128) (mod-lt y (pow_pos 128))) (congruent_trans (congruent_low_bits 128 (pos y)) (congruent_product (congruent_bits w128 a f) (congruent_refl (2 ^ 128) factor)))))
    (congruent_product (congruent_sym (congruent_wrapped k a)) (congruent_refl (2 ^ width_in_bits k) factor)))
