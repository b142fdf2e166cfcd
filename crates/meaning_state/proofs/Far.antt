-- Distances that are far beyond any object.
use Rattle.std.proofs.Common.{List, ◌≡◌, ℕ, zero, suc, ◌^◌, ◌<◌, ◌≤◌, ◌⊎◌, inl, inr, false, ℤ, pos, negsuc, ◌+ℤ◌, ◌-ℤ◌, neg_ℤ, ◌<ℤ◌, Err, refl, arith, FitsSigned, ⊎_elim}
use Rattle.std.specs.Prelude.{nat_le}
use Rattle.std.proofs.lemmas.Int.{ints, fits_signed_from_abs}
use Rattle.std.proofs.lemmas.Bool.{cases_lt}
use Rattle.std.proofs.lemmas.Bool.Decides.{nat_tests}
use mir.Syntax.{w128}
use Rattle.hs_base.specs.declared.ends.TrapKind.TheVariants as trap
use Rattle.hs_base.specs.declared.values.Pointer.TheVariants as pointer
use Rattle.hs_base.specs.Access.{Trapped}
use Rattle.hs_base.specs.Object.{Object, object_at}
use Rattle.object_meaning.specs.objects.Arithmetic.{is_zero, within_object, moved_by}
use Rattle.meaning_state.specs.Reaching.{IsFar}

-- a place below an object or behind it
outside : (birth size : ℕ) (n : ℤ) → (n <ℤ pos 0) ⊎ (pos size <ℤ n) → within_object birth size n ≡ Err (Trapped trap.Range)
outside birth size (negsuc k) h = refl
outside birth size (pos k) (inl h) = absurd (omega (arith, ints))
outside birth size (pos k) (inr h) =
    let lt : size < k = omega (arith, ints) in
    let no : nat_le k size ≡ false = grind (arith, nat_tests) in rw no refl

far_place : (offset size : ℕ) (d : ℤ) → offset < 2 ^ 32 → size < 2 ^ 32 → IsFar d → ((pos offset +ℤ d) <ℤ pos 0) ⊎ (pos size <ℤ (pos offset +ℤ d))
far_place offset size d a b (inl h) = inl (omega (arith, ints))
far_place offset size d a b (inr h) = inr (omega (arith, ints))

not_zero : (d : ℤ) → IsFar d → is_zero d ≡ false
not_zero (pos zero) (inl h) = absurd (omega (arith, ints))
not_zero (pos zero) (inr h) = absurd (omega (arith, ints))
not_zero (pos (suc k)) h = refl
not_zero (negsuc k) h = refl

pub far_null : (objects : List Object) (d : ℤ) → IsFar d → moved_by objects pointer.Null d ≡ Err (Trapped trap.Null)
far_null objects d h = rw (not_zero d h) refl

pub far_at : (objects : List Object) (birth offset : ℕ) (d : ℤ) → offset < 2 ^ 32 → (object_at objects birth).size < 2 ^ 32 → IsFar d → moved_by objects (pointer.At birth offset) d ≡ Err (Trapped trap.Range)
far_at objects birth offset d a b h =
    outside birth (object_at objects birth).size (pos offset +ℤ d) (far_place offset (object_at objects birth).size d a b h)

-- a number that the code's numbers do not hold
pub too_large : (n : ℤ) → (FitsSigned w128 n → ⊥) → IsFar n × IsFar (neg_ℤ n)
too_large (pos k) h =
    ⊎_elim
    (λ (lt : k < 2 ^ 127). absurd (h (fits_signed_from_abs w128 (pos k) lt)))
    (λ (le : 2 ^ 127 ≤ k). (inr (omega (arith, ints)), inl (omega (arith, ints))))
    (cases_lt k (2 ^ 127))
too_large (negsuc k) h =
    ⊎_elim
    (λ (lt : suc k < 2 ^ 127). absurd (h (fits_signed_from_abs w128 (negsuc k) lt)))
    (λ (le : 2 ^ 127 ≤ suc k). (inl (omega (arith, ints)), inr (omega (arith, ints))))
    (cases_lt (suc k) (2 ^ 127))

pub minus_is : (d up n : ℤ) → d ≡ pos 0 -ℤ up → up ≡ n → d ≡ neg_ℤ n
minus_is d up n e f = omega (arith, ints)
