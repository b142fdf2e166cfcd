-- The first register that two sets have in common, or that they have not.
use Rattle.std.proofs.Common.{◌≡◌, ◌<◌, ◌≤◌, ◌+◌, ◌-◌, ◌*◌, ◌/◌, ◌%◌, ◌^◌, ◌&&◌, ℕ, Bool, true, false, cond, not, List, eqb, get_or, min, zero, suc, refl, sym, ap, ◌∙◌, arith, ⊎_elim, w64}
use Rattle.std.specs.Prelude.{bit_and}
use Rattle.std.specs.Int.{bit_at, trailing_zeros}
use Rattle.std.proofs.lemmas.Bool.{cases_lt}
use Rattle.std.proofs.lemmas.Nat.Bits.{bit_at-lt, bit_at-zero, bit_at_and, bit_at_not, bit_at_mask_inside, bit_at_mask_below, bit_at-trailing_zeros, ones_shl}
use Rattle.local_liveness.specs.Sets.{has, in_both, IsFirst}
use Rattle.local_liveness.proofs.Bits.{has_at}

-- a word has a bit for each of its registers at which a test gives an answer
abbrev pub Shows : (ℕ → Bool) → Bool → ℕ → ℕ → Type 0
Shows test answer place word = (i : ℕ) → i < 64 → eqb (bit_at word i) 1 ≡ cond answer (test (64 * place + i)) (not (test (64 * place + i)))

min_is_one : (x y : ℕ) → x < 2 → y < 2 → eqb (min x y) 1 ≡ (eqb x 1 && eqb y 1)
min_is_one zero zero p q = refl
min_is_one zero (suc zero) p q = refl
min_is_one zero (suc (suc y)) p q = absurd (omega arith)
min_is_one (suc zero) zero p q = refl
min_is_one (suc zero) (suc zero) p q = refl
min_is_one (suc zero) (suc (suc y)) p q = absurd (omega arith)
min_is_one (suc (suc x)) y p q = absurd (omega arith)

-- what two sets have in common, by a word
module _ (one other : List ℕ) (place word : ℕ) (is : word ≡ bit_and (get_or one place 0) (get_or other place 0)) where
  pub both_at : (i : ℕ) → i < 64 → in_both one other (64 * place + i) ≡ eqb (bit_at word i) 1
  both_at i less =
      ap (λ x. x && has other (64 * place + i)) (has_at one place i less)
      ∙ ap (λ x. eqb (bit_at (get_or one place 0) i) 1 && x) (has_at other place i less)
      ∙ sym
      (ap (λ w. eqb (bit_at w i) 1) is
      ∙ ap (λ n. eqb n 1) (bit_at_and (get_or one place 0) (get_or other place 0) i)
      ∙ min_is_one (bit_at (get_or one place 0) i) (bit_at (get_or other place 0) i) (bit_at-lt (get_or one place 0) i) (bit_at-lt (get_or other place 0) i))

  pub shows_common : Shows (in_both one other) true place word
  shows_common i less = sym (both_at i less)

  pub shows_others : word < 2 ^ 64 → Shows (in_both one other) false place (18446744073709551615 - word)
  shows_others small i less =
      ap (λ b. eqb b 1) (bit_at_not w64 word i small less)
      ∙ one_less (bit_at word i) (bit_at-lt word i)
      ∙ ap not (sym (both_at i less))
    where
      one_less : (b : ℕ) → b < 2 → eqb (1 - b) 1 ≡ not (eqb b 1)
      one_less zero less = refl
      one_less (suc zero) less = refl
      one_less (suc (suc b)) less = absurd (omega arith)

-- registers that are passed by, from one on and below another: a test does not give the answer at them
abbrev pub Passed : (ℕ → Bool) → Bool → ℕ → ℕ → Type 0
Passed test answer from register = (r : ℕ) → from ≤ r → r < register → test r ≡ not answer

-- the same, where the registers are looked at in turn
pub record Scanned (test : ℕ → Bool) (answer : Bool) (from register : ℕ) : Type 0 where
  pub starts : from ≤ register
  pub before : (r : ℕ) → from ≤ r → r < register → test r ≡ not answer

pub scanned_none : (test : ℕ → Bool) (answer : Bool) (from : ℕ) → Scanned test answer from from
scanned_none test answer from = record { starts = omega arith; before = λ r a b. absurd (omega arith) }

pub scanned_all : (test : ℕ → Bool) (answer : Bool) (from until register : ℕ) → from ≤ until → until ≤ register → Scanned test answer from register → IsFirst test answer from until until
scanned_all test answer from until register order all s = record {
  starts = order;
  ends = omega arith;
  before = λ r a b. s.before r a (omega arith);
  here = λ b. absurd (omega arith);
}

is_it : (b answer h : Bool) → b ≡ cond answer h (not h) → b ≡ true → h ≡ answer
is_it b true h e t = sym e ∙ t
is_it b false true h e = sym e ∙ h
is_it b false false h e = refl

is_other : (b answer h : Bool) → b ≡ cond answer h (not h) → b ≡ false → h ≡ not answer
is_other b true h e f = sym e ∙ f
is_other b false true h e = refl
is_other b false false h e = sym e ∙ h

module _ (test : ℕ → Bool) (answer : Bool) (from until register word : ℕ) (s : Scanned test answer from register) (less : register < until)
    (shows : Shows test answer (register / 64) word) where
  abbrev low : ℕ
  low = register % 64

  abbrev masked : ℕ
  masked = bit_and word (18446744073709551615 * 2 ^ low % 18446744073709551616)

  mask_is : 18446744073709551615 * 2 ^ low % 18446744073709551616 ≡ 2 ^ 64 - 2 ^ low
  mask_is = ones_shl 64 low (omega arith)

  bit_from : (i : ℕ) → low ≤ i → i < 64 → bit_at masked i ≡ bit_at word i
  bit_from i a b =
      let one : bit_at (2 ^ 64 - 2 ^ low) i ≡ 1 = bit_at_mask_inside low 64 i a b in
      let small = bit_at-lt word i in
      bit_at_and word _ i ∙ ap (λ m. min (bit_at word i) (bit_at m i)) mask_is ∙ ap (λ n. min (bit_at word i) n) one ∙ at_most_one (bit_at word i) small
    where
      at_most_one : (n : ℕ) → n < 2 → min n 1 ≡ n
      at_most_one n h = omega arith

  bit_below : (i : ℕ) → i < low → bit_at masked i ≡ 0
  bit_below i a =
      bit_at_and word _ i ∙ ap (λ m. min (bit_at word i) (bit_at m i)) mask_is ∙ ap (λ n. min (bit_at word i) n) (bit_at_mask_below low 64 i a) ∙ none (bit_at word i)
    where
      none : (n : ℕ) → min n 0 ≡ 0
      none n = omega arith

  -- registers of the word that have no bit
  unseen : (i : ℕ) → low ≤ i → i < 64 → bit_at masked i ≡ 0 → test (64 * (register / 64) + i) ≡ not answer
  unseen i a b h =
      is_other (eqb (bit_at word i) 1) answer _ (shows i b) (ap (λ n. eqb n 1) (sym (bit_from i a b) ∙ h))

  before_bit : (last : ℕ) → last ≤ 64 → ((i : ℕ) → i < last → bit_at masked i ≡ 0) → (r : ℕ) → from ≤ r → r < 64 * (register / 64) + last → test r ≡ not answer
  before_bit last within none r a b =
      ⊎_elim
      (λ (passed : r < register). s.before r a passed)
      (λ (rest : register ≤ r).
      let e : 64 * (register / 64) + (r - 64 * (register / 64)) ≡ r = omega arith in
      ap test (sym e) ∙ unseen (r - 64 * (register / 64)) (omega arith) (omega arith) (none (r - 64 * (register / 64)) (omega arith)))
      (cases_lt r register)

  pub scanned_more : masked ≡ 0 → Scanned test answer from (64 * (register / 64) + 64)
  scanned_more empty = record {
    starts = let starts = s.starts in omega arith;
    before = before_bit 64 (omega arith) (λ i b. ap (λ m. bit_at m i) empty ∙ bit_at-zero i);
  }

  pub scanned_found : 0 < masked → masked < 2 ^ 64 → (first : ℕ) → first ≡ min (64 * (register / 64) + trailing_zeros w64 masked) until → IsFirst test answer from until first
  scanned_found some small first is =
      let place = bit_at-trailing_zeros w64 masked some small in
      let tz = trailing_zeros w64 masked in
      let starts = s.starts in
      let within : tz < 64 = place.0 in
      let reached : low ≤ tz =
      ⊎_elim
      (λ (below : tz < low). let two : 0 ≡ 1 = sym (bit_below tz below) ∙ place.1 in absurd (omega arith))
      (λ (h : low ≤ tz). h)
      (cases_lt tz low) in
      record {
        starts = omega arith;
        ends = omega arith;
        before = λ r a b. before_bit tz (omega arith) place.2 r a (omega arith);
        here = λ b.
            let e : first ≡ 64 * (register / 64) + tz = omega arith in
            ap test e
            ∙ is_it (eqb (bit_at word tz) 1) answer _ (shows tz within) (ap (λ n. eqb n 1) (sym (bit_from tz reached within) ∙ place.1));
      }

-- what is found below the end of a word, and what stands behind a word where nothing is found
module _ (test : ℕ → Bool) (answer : Bool) (from until register end found : ℕ) (s : Scanned test answer from register) (first : IsFirst test answer register end found) where
  before_found : (r : ℕ) → from ≤ r → r < found → test r ≡ not answer
  before_found r a b =
      ⊎_elim
      (λ (passed : r < register). s.before r a passed)
      (λ (rest : register ≤ r). first.before r rest b)
      (cases_lt r register)

  pub scanned_here : register < until → found < end → (result : ℕ) → result ≡ min found until → IsFirst test answer from until result
  scanned_here less within result is =
      let starts = s.starts in
      let order = first.starts in
      record {
        starts = omega arith;
        ends = omega arith;
        before = λ r a b. before_found r a (omega arith);
        here = λ b. let e : result ≡ found = omega arith in ap test e ∙ first.here within;
      }

  pub scanned_on : end ≤ found → (place next : ℕ) → end ≡ 64 * place → place ≤ next → Passed test answer (64 * place) (64 * next) → Scanned test answer from (64 * next)
  scanned_on none place next at onward passed =
      let starts = s.starts in
      let order = first.starts in
      let ends = first.ends in
      record {
        starts = omega arith;
        before = λ r a b.
            ⊎_elim
            (λ (here : r < end). before_found r a (omega arith))
            (λ (behind : end ≤ r). passed r (omega arith) b)
            (cases_lt r end);
      }
