-- One bit of a set.
use Rattle.std.proofs.Common.{◌≡◌, ◌<◌, ◌≤◌, ◌+◌, ◌-◌, ◌*◌, ◌/◌, ◌%◌, ◌^◌, ◌&&◌, ◌||◌, ℕ, zero, suc, Bool, true, false, not, List, [], length, eqb, get_or, replicate, refl, sym, ap, ◌∙◌, arith, ⊎_elim, true≢false, length-set, w64}
use Rattle.std.specs.Prelude.{slice_set, bit_and, bit_or}
use Rattle.std.specs.Int.{bit_at}
use Rattle.std.proofs.lemmas.Bool.{cases_eq, cases_lt, eq-eqb, ne_eqb}
use Rattle.std.proofs.lemmas.List.{get_or-set_same, get_or-set_other, get_or_past, get_or_read}
use Rattle.std.proofs.lemmas.Nat.Bits.{bit_at-zero, bit_at_set_same, bit_at_set_other, bit_at_clear_same, bit_at_clear_other, shr_and_one}
use Rattle.local_liveness.specs.Sets.{has, set_at, Adds, Drops}

pub has_past : (row : List ℕ) (r : ℕ) → length row ≤ r / 64 → has row r ≡ false
unfolding has
has_past row r h = ap (λ v. eqb (bit_at v (r % 64)) 1) (get_or_past row (r / 64) 0 h) ∙ ap (λ b. eqb b 1) (bit_at-zero (r % 64))

pub zeros : (words i : ℕ) → ◌≡◌ {A = ℕ} (get_or (replicate words 0) i 0) 0
zeros zero i = refl
zeros (suc words) zero = refl
zeros (suc words) (suc i) = zeros words i

pub has_zeros : (words r : ℕ) → has (replicate words 0) r ≡ false
unfolding has
has_zeros words r = ap (λ v. eqb (bit_at v (r % 64)) 1) (zeros words (r / 64)) ∙ ap (λ b. eqb b 1) (bit_at-zero (r % 64))

-- what a test of a bit gives
pub contains_bit :
    (row now : List ℕ) (register word : ℕ) → row ≡ now → register / 64 < length row → word ≡ get_or row (register / 64) word →
    eqb (bit_and (word / 2 ^ (register % 64)) 1) 1 ≡ has now register
unfolding has
contains_bit row now register word same within is =
    ap (λ b. eqb b 1) (shr_and_one word (register % 64))
    ∙ ap (λ v. eqb (bit_at v (register % 64)) 1) (get_or_read row (register / 64) word within is 0 ∙ ap (λ xs. get_or xs (register / 64) 0) same)

pub contains_none : (row now : List ℕ) (register : ℕ) → row ≡ now → length row ≤ register / 64 → false ≡ has now register
contains_none row now register same past = sym (has_past row register past) ∙ ap (λ xs. has xs register) same

-- a bit of a word that is written, of another word, and of the word before
same_word : (row : List ℕ) (place word r : ℕ) → place < length row → r / 64 ≡ place → has (slice_set row place word) r ≡ eqb (bit_at word (r % 64)) 1
unfolding has
same_word row place word r b e =
    ap (λ v. eqb (bit_at v (r % 64)) 1) (ap (λ i. get_or (slice_set row place word) i 0) e ∙ get_or-set_same row place word 0 b)

other_word : (row : List ℕ) (place word r : ℕ) → (r / 64 ≡ place → ⊥) → has (slice_set row place word) r ≡ has row r
unfolding has
other_word row place word r h = ap (λ v. eqb (bit_at v (r % 64)) 1) (get_or-set_other row place (r / 64) word 0 h)

old_word : (row : List ℕ) (place word r : ℕ) → r / 64 ≡ place → word ≡ get_or row place 0 → eqb (bit_at word (r % 64)) 1 ≡ has row r
unfolding has
old_word row place word r e is = ap (λ v. eqb (bit_at v (r % 64)) 1) (is ∙ ap (λ i. get_or row i 0) (sym e))

abbrev with_bit : ℕ → ℕ → ℕ
with_bit word register = bit_or word (1 * 2 ^ (register % 64) % 18446744073709551616)

abbrev without_bit : ℕ → ℕ → ℕ
without_bit word register = bit_and word (18446744073709551615 - 1 * 2 ^ (register % 64) % 18446744073709551616)

inserted :
    (row : List ℕ) (register word r : ℕ) → register / 64 < length row → word ≡ get_or row (register / 64) 0 →
    has (slice_set row (register / 64) (with_bit word register)) r ≡ (eqb register r || has row r)
inserted row register word r b is =
    let below : register % 64 < 64 = omega arith in
    ⊎_elim
    (λ (same : r / 64 ≡ register / 64).
    ⊎_elim
    (λ (bit : r % 64 ≡ register % 64).
    let e : register ≡ r = omega arith in
    same_word row (register / 64) (with_bit word register) r b same
    ∙ ap (λ n. eqb n 1) (ap (λ i. bit_at (with_bit word register) i) bit ∙ bit_at_set_same w64 word (register % 64) below)
    ∙ ap (λ t. t || has row r) (sym (eq-eqb register r e)))
    (λ (other : r % 64 ≡ register % 64 → ⊥).
    same_word row (register / 64) (with_bit word register) r b same
    ∙ ap (λ n. eqb n 1) (bit_at_set_other w64 word (register % 64) below (r % 64) other)
    ∙ old_word row (register / 64) word r same is
    ∙ ap (λ t. t || has row r) (sym (ne_eqb register r (λ e. other (ap (λ n. n % 64) (sym e))))))
    (cases_eq (r % 64) (register % 64)))
    (λ (other : r / 64 ≡ register / 64 → ⊥).
    other_word row (register / 64) (with_bit word register) r other
    ∙ ap (λ t. t || has row r) (sym (ne_eqb register r (λ e. other (ap (λ n. n / 64) (sym e))))))
    (cases_eq (r / 64) (register / 64))

removed :
    (row : List ℕ) (register word r : ℕ) → register / 64 < length row → word ≡ get_or row (register / 64) 0 →
    has (slice_set row (register / 64) (without_bit word register)) r ≡ (not (eqb register r) && has row r)
removed row register word r b is =
    let below : register % 64 < 64 = omega arith in
    let small : r % 64 < 64 = omega arith in
    ⊎_elim
    (λ (same : r / 64 ≡ register / 64).
    ⊎_elim
    (λ (bit : r % 64 ≡ register % 64).
    let e : register ≡ r = omega arith in
    same_word row (register / 64) (without_bit word register) r b same
    ∙ ap (λ n. eqb n 1) (ap (λ i. bit_at (without_bit word register) i) bit ∙ bit_at_clear_same w64 word (register % 64) below)
    ∙ ap (λ t. not t && has row r) (sym (eq-eqb register r e)))
    (λ (other : r % 64 ≡ register % 64 → ⊥).
    same_word row (register / 64) (without_bit word register) r b same
    ∙ ap (λ n. eqb n 1) (bit_at_clear_other w64 word (register % 64) below (r % 64) small other)
    ∙ old_word row (register / 64) word r same is
    ∙ ap (λ t. not t && has row r) (sym (ne_eqb register r (λ e. other (ap (λ n. n % 64) (sym e))))))
    (cases_eq (r % 64) (register % 64)))
    (λ (other : r / 64 ≡ register / 64 → ⊥).
    other_word row (register / 64) (without_bit word register) r other
    ∙ ap (λ t. not t && has row r) (sym (ne_eqb register r (λ e. other (ap (λ n. n / 64) (sym e))))))
    (cases_eq (r / 64) (register / 64))

pub insert_bit :
    (row : List ℕ) (register word : ℕ) → register / 64 < length row → word ≡ get_or row (register / 64) 0 →
    Adds (λ r. eqb register r) row (slice_set row (register / 64) (bit_or word (1 * 2 ^ (register % 64) % 18446744073709551616)))
insert_bit row register word within is = record {
  words = length-set row (register / 64) (with_bit word register);
  bits = λ r b. inserted row register word r within is;
}

pub remove_bit :
    (row : List ℕ) (register word : ℕ) → register / 64 < length row → word ≡ get_or row (register / 64) 0 →
    Drops (λ r. eqb register r) row (slice_set row (register / 64) (bit_and word (18446744073709551615 - 1 * 2 ^ (register % 64) % 18446744073709551616)))
remove_bit row register word within is = record {
  words = length-set row (register / 64) (without_bit word register);
  bits = λ r b. removed row register word r within is;
}

-- one set after another
or_shift : (x y z : Bool) → (y || (x || z)) ≡ ((x || y) || z)
or_shift true true z = refl
or_shift true false z = refl
or_shift false true z = refl
or_shift false false z = refl

pub adds_none : (f : ℕ → Bool) (a : List ℕ) → ((r : ℕ) → f r ≡ false) → Adds f a a
adds_none f a none = record { words = refl; bits = λ r b. ap (λ t. t || has a r) (sym (none r)) }

pub adds_both :
    (f g h : ℕ → Bool) (a b c : List ℕ) → Adds f a b → Adds g b c → ((r : ℕ) → h r ≡ (f r || g r)) → Adds h a c
adds_both f g h a b c one two both = record {
  words = two.words ∙ one.words;
  bits = λ r less.
      let same = one.words in
      two.bits r (omega arith) ∙ ap (λ t. g r || t) (one.bits r less) ∙ or_shift (f r) (g r) (has a r) ∙ ap (λ t. t || has a r) (sym (both r));
}

pub front_words : (f g : ℕ → Bool) (a b c : List ℕ) → Drops f a b → Adds g b c → length c ≡ length a
front_words f g a b c drops adds = adds.words ∙ drops.words

pub front_bits :
    (f g : ℕ → Bool) (a b c : List ℕ) → Drops f a b → Adds g b c →
    (r : ℕ) → r < 64 * length a → has c r ≡ (g r || (not (f r) && has a r))
front_bits f g a b c drops adds r less =
    let same = drops.words in
    adds.bits r (omega arith) ∙ ap (λ t. g r || t) (drops.bits r less)

-- a set has a register only below its last bit
pub has_inside : (set : List ℕ) (r : ℕ) → has set r ≡ true → r < 64 * length set
has_inside set r h =
    ⊎_elim
    (λ (less : r / 64 < length set). omega arith)
    (λ (past : length set ≤ r / 64). absurd (true≢false (sym h ∙ has_past set r past)))
    (cases_lt (r / 64) (length set))

-- words that are all zero
pub has_cleared : (words : List ℕ) → ((k : ℕ) → k < length words → get_or words k 0 ≡ 0) → (r : ℕ) → has words r ≡ false
unfolding has
has_cleared words cleared r =
    ⊎_elim
    (λ (less : r / 64 < length words). ap (λ v. eqb (bit_at v (r % 64)) 1) (cleared (r / 64) less) ∙ ap (λ b. eqb b 1) (bit_at-zero (r % 64)))
    (λ (past : length words ≤ r / 64). has_past words r past)
    (cases_lt (r / 64) (length words))

-- one bit of a word at a place
pub has_at : (set : List ℕ) (place i : ℕ) → i < 64 → has set (64 * place + i) ≡ eqb (bit_at (get_or set place 0) i) 1
unfolding has
has_at set place i less =
    let at : (64 * place + i) / 64 ≡ place = omega arith in
    let bit : (64 * place + i) % 64 ≡ i = omega arith in
    ap (λ k. eqb (bit_at (get_or set k 0) ((64 * place + i) % 64)) 1) at ∙ ap (λ b. eqb (bit_at (get_or set place 0) b) 1) bit

-- a point past the last has no set to be added
pub none_past : (sets : List (List ℕ)) (point : ℕ) (live : List ℕ) → length sets ≤ point → (r : ℕ) → has live r ≡ (has (set_at sets point) r || has live r)
none_past sets point live past r =
    sym (ap (λ b. b || has live r) (ap (λ x. has x r) (get_or_past sets point [] past) ∙ has_past [] r (omega arith)))
