-- Words that are joined one by one.
use Rattle.std.proofs.Common.{◌≡◌, ◌<◌, ◌≤◌, ◌+◌, ◌*◌, ◌/◌, ◌%◌, ◌||◌, ℕ, zero, suc, Bool, false, List, length, eqb, get_or, max, min, refl, sym, ap, ◌∙◌, arith, ⊎_elim, length-set}
use Rattle.std.specs.Prelude.{slice_set, bit_or}
use Rattle.std.specs.Int.{bit_at}
use Rattle.std.proofs.lemmas.Bool.{cases_eq, cases_lt, or_parts}
use Rattle.std.proofs.lemmas.List.{get_or-set_same, get_or-set_other, set-get_or}
use Rattle.std.proofs.lemmas.Nat.Bits.{bit_at_or, bit_at-lt}
use Rattle.local_liveness.specs.Sets.{has, Adds}
use Rattle.local_liveness.proofs.Bits.{has_past}

max_is_one : (x y : ℕ) → x < 2 → y < 2 → eqb (max x y) 1 ≡ (eqb y 1 || eqb x 1)
max_is_one zero zero p q = refl
max_is_one zero (suc zero) p q = refl
max_is_one zero (suc (suc y)) p q = absurd (omega arith)
max_is_one (suc zero) zero p q = refl
max_is_one (suc zero) (suc zero) p q = refl
max_is_one (suc zero) (suc (suc y)) p q = absurd (omega arith)
max_is_one (suc (suc x)) y p q = absurd (omega arith)

or_bit : (a b i : ℕ) → eqb (bit_at (bit_or a b) i) 1 ≡ (eqb (bit_at b i) 1 || eqb (bit_at a i) 1)
or_bit a b i = ap (λ n. eqb n 1) (bit_at_or a b i) ∙ max_is_one (bit_at a i) (bit_at b i) (bit_at-lt a i) (bit_at-lt b i)

-- so many words are joined, and the others are as before
pub record Joined (old others words : List ℕ) (i : ℕ) (more : Bool) : Type 0 where
  pub long : length words ≡ length old
  pub done : (k : ℕ) → k < i → get_or words k 0 ≡ bit_or (get_or old k 0) (get_or others k 0)
  pub rest : (k : ℕ) → i ≤ k → get_or words k 0 ≡ get_or old k 0
  pub same : more ≡ false → words ≡ old

pub joined_none : (old others : List ℕ) → Joined old others old 0 false
joined_none old others = record { long = refl; done = λ k b. absurd (omega arith); rest = λ k b. refl; same = λ e. refl }

pub joined_more :
    (old others words new : List ℕ) (i : ℕ) (more found : Bool) → i < length words → new ≡ slice_set words i (bit_or (get_or words i 0) (get_or others i 0)) →
    (found ≡ false → new ≡ words) → Joined old others words i more → Joined old others new (i + 1) (more || found)
joined_more old others words new i more found inside is same j =
    let word = bit_or (get_or words i 0) (get_or others i 0) in
    record {
      long = ap length is ∙ length-set words i word ∙ j.long;
      done = λ k less.
          ap (λ (xs : List ℕ). get_or xs k 0) is
          ∙ ⊎_elim
          (λ (e : k ≡ i).
          ap (λ n. get_or (slice_set words i word) n 0) e
          ∙ get_or-set_same words i word 0 inside
          ∙ ap (λ v. bit_or v (get_or others i 0)) (j.rest i (omega arith))
          ∙ ap (λ n. bit_or (get_or old n 0) (get_or others n 0)) (sym e))
          (λ (ne : k ≡ i → ⊥). get_or-set_other words i k word 0 ne ∙ j.done k (omega arith))
          (cases_eq k i);
      rest = λ k past. ap (λ (xs : List ℕ). get_or xs k 0) is ∙ get_or-set_other words i k word 0 (λ e. omega arith) ∙ j.rest k (omega arith);
      same = λ no.
          let parts = or_parts more found no in
          same parts.1 ∙ j.same parts.0;
    }

-- a word that has the other's bits already
pub joined_same : (words : List ℕ) (place word joined : ℕ) → word ≡ get_or words place 0 → joined ≡ word → words ≡ slice_set words place joined
joined_same words place word joined is same = sym (ap (λ v. slice_set words place v) (same ∙ is) ∙ set-get_or words place 0)

joined_bit :
    (old others words : List ℕ) (n : ℕ) (more : Bool) → min (length words) (length others) ≤ n → Joined old others words n more → (r : ℕ) → r < 64 * length old →
    has words r ≡ (has others r || has old r)
unfolding has
joined_bit old others words n more all j r b =
    let long = j.long in
    ⊎_elim
    (λ (less : r / 64 < n).
    ap (λ v. eqb (bit_at v (r % 64)) 1) (j.done (r / 64) less)
    ∙ or_bit (get_or old (r / 64) 0) (get_or others (r / 64) 0) (r % 64))
    (λ (past : n ≤ r / 64).
    let none : has others r ≡ false = has_past others r (omega arith) in
    ap (λ v. eqb (bit_at v (r % 64)) 1) (j.rest (r / 64) past) ∙ sym (ap (λ t. t || has old r) none))
    (cases_lt (r / 64) n)

pub joined_all :
    (old others words : List ℕ) (n : ℕ) (more : Bool) → min (length words) (length others) ≤ n → Joined old others words n more → Adds (has others) old words
joined_all old others words n more all j = record { words = j.long; bits = joined_bit old others words n more all j }
