-- Quotients and remainders of two numbers of a kind.
use Rattle.std.proofs.Common.{◌≡◌, ℕ, zero, suc, ◌/◌, ◌^◌, ◌<◌, ◌≤◌, Some, refl, sym, ap, ◌∙◌, subst, arith}
use Rattle.std.specs.Prelude.{IfSome, Option, ◌*ℤ◌, ℤ, pos, negsuc, neg_ℤ, unsigned_abs, int_div, int_rem, FitsSigned}
use Rattle.std.specs.Int.{w8, w16, w32, w64, w128, cast_signed, cast_unsigned}
use Rattle.std.proofs.lemmas.Int.{quot-rem, ints, quot_is, rem_is, fits_signed_from_abs, SFits-int_wrap}
use Rattle.std.proofs.Math.Nat.{div-le_self}
use Rattle.hs_base.specs.declared.ends.IntKind.{IntKind}
use Rattle.hs_base.specs.declared.ends.IntKind.TheVariants.{I8, U8, I16, U16, I32, U32, I64, U64}
use Rattle.hs_base.specs.Numbers.{wrapped}
use Rattle.hs_base.specs.Arithmetic.{for_divisor, quotient_of, remainder_of, product_of, sum_of, width_in_bits}
use Rattle.hs_base.specs.NumbersEquations.{low_bits_lt}
use Rattle.hs_base.proofs.Wrapping.{IsCongruent, congruent_refl, congruent_trans, congruent_sum, congruent_product, congruent_wrapped, wrapped_same, wrapped_again}

-- a divisor other than 0 has a result
pub for_other : (k : IntKind) (b d : ℤ) → d ≡ wrapped k b → (cast_unsigned w128 d ≡ 0 → ⊥) → (n : ℤ) → Some n ≡ for_divisor (wrapped k b) n
for_other k b d e h n = by d h ∙ ap (λ z. for_divisor z n) e
  where
    by : (z : ℤ) → (cast_unsigned w128 z ≡ 0 → ⊥) → Some n ≡ for_divisor z n
    by (pos zero) h = absurd (h refl)
    by (pos (suc m)) h = refl
    by (negsuc m) h = refl

abs_neg : (n : ℕ) → unsigned_abs (neg_ℤ (pos n)) ≡ n
abs_neg zero = refl
abs_neg (suc n) = refl

quotient_le : (a d : ℤ) → unsigned_abs (int_div a d) ≤ unsigned_abs a
quotient_le (pos a) (pos b) = div-le_self a b
quotient_le (pos a) (negsuc b) = omega (arith, abs_neg (a / suc b), div-le_self a (suc b))
quotient_le (negsuc a) (pos b) = omega (arith, abs_neg (suc a / b), div-le_self (suc a) b)
quotient_le (negsuc a) (negsuc b) = div-le_self (suc a) (suc b)

-- a number of a kind is small
pub wrapped_small : (k : IntKind) (n : ℤ) → unsigned_abs (wrapped k n) < 2 ^ 127
wrapped_small I8 n = omega (arith, ints, SFits-int_wrap w8 n)
wrapped_small U8 n = omega (arith, low_bits_lt 8 n)
wrapped_small I16 n = omega (arith, ints, SFits-int_wrap w16 n)
wrapped_small U16 n = omega (arith, low_bits_lt 16 n)
wrapped_small I32 n = omega (arith, ints, SFits-int_wrap w32 n)
wrapped_small U32 n = omega (arith, low_bits_lt 32 n)
wrapped_small I64 n = omega (arith, ints, SFits-int_wrap w64 n)
wrapped_small U64 n = omega (arith, low_bits_lt 64 n)

-- a, d: what the operands converted to
module _ (k : IntKind) (x y a d : ℤ) (e : a ≡ wrapped k x) (f : d ≡ wrapped k y) where
  dividend_fits : FitsSigned w128 a
  dividend_fits = fits_signed_from_abs w128 a (subst (λ z. unsigned_abs z < 2 ^ 127) (sym e) (wrapped_small k x))

  divisor_fits : FitsSigned w128 d
  divisor_fits = fits_signed_from_abs w128 d (subst (λ z. unsigned_abs z < 2 ^ 127) (sym f) (wrapped_small k y))

  quotient_fits : FitsSigned w128 (int_div a d)
  quotient_fits = fits_signed_from_abs w128 (int_div a d) (let small : unsigned_abs a < 2 ^ 127 = subst (λ z. unsigned_abs z < 2 ^ 127) (sym e) (wrapped_small k x) in omega (arith, quotient_le a d))

  pub wrapped_quotient : wrapped k (cast_signed w128 (cast_unsigned w128 (int_div (cast_signed w128 (cast_unsigned w128 a)) (cast_signed w128 (cast_unsigned w128 d))))) ≡ wrapped k (int_div (wrapped k x) (wrapped k y))
  wrapped_quotient = ap (λ z. wrapped k z) (quot_is w128 a d dividend_fits divisor_fits quotient_fits ∙ (λ i. int_div (e i) (f i)))

  pub wrapped_remainder : wrapped k (cast_signed w128 (cast_unsigned w128 (int_rem (cast_signed w128 (cast_unsigned w128 a)) (cast_signed w128 (cast_unsigned w128 d))))) ≡ wrapped k (int_rem (wrapped k x) (wrapped k y))
  wrapped_remainder = ap (λ z. wrapped k z) (rem_is w128 a d dividend_fits divisor_fits ∙ (λ i. int_rem (e i) (f i)))

-- the quotient times the divisor, and the remainder, make the dividend
divided_whole : (k : IntKind) (a b : ℤ) → let q = wrapped k (int_div (wrapped k a) (wrapped k b)) in sum_of k (product_of k q b) (wrapped k (int_rem (wrapped k a) (wrapped k b))) ≡ wrapped k a
divided_whole k a b =
    let m = 2 ^ width_in_bits k in
    let x = wrapped k a in
    let y = wrapped k b in
    let to : (z : ℤ) → IsCongruent m (wrapped k z) z = congruent_wrapped k in
    let product : IsCongruent m (wrapped k (product_of k (wrapped k (int_div x y)) b)) (int_div x y *ℤ y) =
    congruent_trans (to _) (congruent_trans (to _) (congruent_product (congruent_trans (to _) (to _)) (congruent_refl m y))) in
    let rest : IsCongruent m (wrapped k (wrapped k (int_rem x y))) (int_rem x y) = congruent_trans (to _) (to _) in
    wrapped_same k _ _ (congruent_sum product rest) ∙ ap (λ z. wrapped k z) (quot-rem x y) ∙ wrapped_again k a

-- what holds of two results holds where there are results
for_both : (P : ℤ → ℤ → Type 0) (d q r : ℤ) → P q r → IfSome (for_divisor d r) (λ r. IfSome (for_divisor d q) (λ q. P q r))
for_both P (pos zero) q r h = tt
for_both P (pos (suc n)) q r h = h
for_both P (negsuc n) q r h = h

pub divided : (k : IntKind) (a b : ℤ) (o : Option ℤ) → o ≡ remainder_of k a b → IfSome o (λ r. IfSome (quotient_of k a b) (λ q. sum_of k (product_of k q b) r ≡ wrapped k a))
divided k a b o e =
    let P : ℤ → ℤ → Type 0 = λ q r. sum_of k (product_of k q b) r ≡ wrapped k a in
    subst (λ o. IfSome o (λ r. IfSome (quotient_of k a b) (λ q. P q r))) (sym e) (for_both P (wrapped k b) _ _ (divided_whole k a b))
