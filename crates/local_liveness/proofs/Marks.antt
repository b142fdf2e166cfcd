-- Which words of a set have a register, and which have all.
use Rattle.std.proofs.Common.{◌≡◌, ◌<◌, ◌≤◌, ◌*◌, ◌/◌, ◌%◌, ◌&&◌, ◌||◌, ℕ, Bool, true, false, not, cond, List, length, eqb, get_or, replicate, refl, sym, ap, ◌∙◌, subst, arith, ⊎_elim, true≢false, length-set}
use Rattle.std.specs.Prelude.{slice_set}
use Rattle.std.specs.Int.{bit_at}
use Rattle.std.proofs.lemmas.Bool.{cases_eq, cases_lt, eq-eqb, ne_eqb, eqb-true}
use Rattle.std.proofs.lemmas.List.{get_or-set_same, get_or-set_other, length-replicate}
use Rattle.std.proofs.lemmas.Nat.Bits.{bit_at-zero, bit_at_ones}
use Rattle.local_liveness.specs.Sets.{has, in_both, AreMarks, Adds, Drops, Becomes, IsFirst}
use Rattle.local_liveness.proofs.Bits.{has_cleared, has_inside, has_past, has_zeros, zeros}
use Rattle.local_liveness.proofs.Scanning.{Passed}

-- one bit of words is put
pub put_on : (bit : ℕ) (on : Bool) (old new : List ℕ) → on ≡ true → Adds (λ r. eqb bit r) old new → Becomes (λ r. cond (eqb bit r) on (has old r)) old new
put_on bit on old new is adds = record {
  words = adds.words;
  bits = λ r less. adds.bits r less ∙ either (eqb bit r) (has old r) ∙ ap (λ b. cond (eqb bit r) b (has old r)) (sym is);
} where
  either : (b h : Bool) → (b || h) ≡ cond b true h
  either true h = refl
  either false h = refl

pub put_off : (bit : ℕ) (on : Bool) (old new : List ℕ) → on ≡ false → Drops (λ r. eqb bit r) old new → Becomes (λ r. cond (eqb bit r) on (has old r)) old new
put_off bit on old new is drops = record {
  words = drops.words;
  bits = λ r less. drops.bits r less ∙ neither (eqb bit r) (has old r) ∙ ap (λ b. cond (eqb bit r) b (has old r)) (sym is);
} where
  neither : (b h : Bool) → (not b && h) ≡ cond b false h
  neither true h = refl
  neither false h = refl

-- a bit past the last word is left out
pub put_past : (bit : ℕ) (on : Bool) (old : List ℕ) → length old ≤ bit / 64 → Becomes (λ r. cond (eqb bit r) on (has old r)) old old
put_past bit on old past = record {
  words = refl;
  bits = λ r less. sym (ap (λ b. cond b on (has old r)) (ne_eqb bit r (λ e. omega arith)));
}

pub marks_same :
    (words same_words some same_some full same_full : List ℕ) → same_words ≡ words → same_some ≡ some → same_full ≡ full → AreMarks words some full →
    AreMarks same_words same_some same_full
marks_same words same_words some same_some full same_full w s f marks =
    subst (λ (xs : List ℕ). AreMarks xs same_some same_full) (sym w)
    (subst (λ (xs : List ℕ). AreMarks words xs same_full) (sym s) (subst (λ (xs : List ℕ). AreMarks words some xs) (sym f) marks))

-- sets without registers
pub marks_none : (words marks : ℕ) → words ≤ 64 * marks → AreMarks (replicate words 0) (replicate marks 0) (replicate marks 0)
marks_none words marks enough = record {
  room = omega (arith, length-replicate {A = ℕ} words 0, length-replicate {A = ℕ} marks 0);
  none = λ place inside h. zeros words place;
  all = λ place h. absurd (true≢false (sym h ∙ has_zeros marks place));
}

-- sets whose words are cleared
pub marks_cleared :
    (words new_words some new_some full new_full : List ℕ) → AreMarks words some full → length new_words ≡ length words → length new_some ≡ length some →
    ((place : ℕ) → get_or new_words place 0 ≡ 0) → ((place : ℕ) → get_or new_full place 0 ≡ 0) → AreMarks new_words new_some new_full
marks_cleared words new_words some new_some full new_full marks long wide none_words none_full =
    let room = marks.room in
    record {
      room = omega arith;
      none = λ place inside h. none_words place;
      all = λ place h. absurd (true≢false (sym h ∙ has_cleared new_full (λ k less. none_full k) place));
    }

-- a word is written
module _ (words some full new_some new_full : List ℕ) (place word : ℕ) (inside : place < length words) (marks : AreMarks words some full)
    (puts_some : Becomes (λ r. cond (eqb place r) (not (eqb word 0)) (has some r)) some new_some)
    (puts_full : Becomes (λ r. cond (eqb place r) (eqb word 18446744073709551615) (has full r)) full new_full) where
  room : length words ≤ 64 * length some
  room = marks.room

  pub marks_written : AreMarks (slice_set words place word) new_some new_full
  marks_written = record {
    room = omega (arith, puts_some.words, length-set words place word, room);
    none = λ k within h.
        let less : k < length words = omega (arith, length-set words place word) in
        ⊎_elim
        (λ (e : k ≡ place).
        let test : cond (eqb place k) (not (eqb word 0)) (has some k) ≡ false = sym (puts_some.bits k (omega (arith, room))) ∙ h in
        let none : not (eqb word 0) ≡ false = ap (λ b. cond b (not (eqb word 0)) (has some k)) (sym (eq-eqb place k (sym e))) ∙ test in
        ap (λ n. get_or (slice_set words place word) n 0) e ∙ get_or-set_same words place word 0 inside ∙ eqb-true word 0 (not_false (eqb word 0) none))
        (λ (ne : k ≡ place → ⊥).
        let test : cond (eqb place k) (not (eqb word 0)) (has some k) ≡ false = sym (puts_some.bits k (omega (arith, room))) ∙ h in
        get_or-set_other words place k word 0 ne
        ∙ marks.none k less (ap (λ b. cond b (not (eqb word 0)) (has some k)) (sym (ne_eqb place k (λ e. ne (sym e)))) ∙ test))
        (cases_eq k place);
    all = λ k h.
        let less : k < 64 * length full = omega (arith, puts_full.words, has_inside new_full k h) in
        let test : cond (eqb place k) (eqb word 18446744073709551615) (has full k) ≡ true = sym (puts_full.bits k less) ∙ h in
        ⊎_elim
        (λ (e : k ≡ place).
        let full_word : eqb word 18446744073709551615 ≡ true = ap (λ b. cond b (eqb word 18446744073709551615) (has full k)) (sym (eq-eqb place k (sym e))) ∙ test in
        ap (λ n. get_or (slice_set words place word) n 0) e ∙ get_or-set_same words place word 0 inside ∙ eqb-true word 18446744073709551615 full_word)
        (λ (ne : k ≡ place → ⊥).
        get_or-set_other words place k word 0 ne
        ∙ marks.all k (ap (λ b. cond b (eqb word 18446744073709551615) (has full k)) (sym (ne_eqb place k (λ e. ne (sym e)))) ∙ test))
        (cases_eq k place);
  } where
    not_false : (b : Bool) → not b ≡ false → b ≡ true
    not_false true h = refl
    not_false false h = sym h

-- what the marks of two sets say of the registers of a word
has_none : (set : List ℕ) (place r : ℕ) → r / 64 ≡ place → get_or set place 0 ≡ 0 → has set r ≡ false
unfolding has
has_none set place r at empty =
    ap (λ k. eqb (bit_at (get_or set k 0) (r % 64)) 1) at ∙ ap (λ w. eqb (bit_at w (r % 64)) 1) empty ∙ ap (λ b. eqb b 1) (bit_at-zero (r % 64))

has_all : (set : List ℕ) (place r : ℕ) → r / 64 ≡ place → get_or set place 0 ≡ 18446744073709551615 → has set r ≡ true
unfolding has
has_all set place r at filled =
    ap (λ k. eqb (bit_at (get_or set k 0) (r % 64)) 1) at
    ∙ ap (λ w. eqb (bit_at w (r % 64)) 1) filled
    ∙ ap (λ b. eqb b 1) (bit_at_ones 64 (r % 64) (omega arith))

unmarked : (words some full : List ℕ) (place r : ℕ) → AreMarks words some full → r / 64 ≡ place → has some place ≡ false → has words r ≡ false
unmarked words some full place r marks at h =
    ⊎_elim
    (λ (less : place < length words). has_none words place r at (marks.none place less h))
    (λ (past : length words ≤ place). has_past words r (omega arith))
    (cases_lt place (length words))

module _ (one one_some one_full other other_some other_full : List ℕ) (ones : AreMarks one one_some one_full) (others : AreMarks other other_some other_full)
    (from until place : ℕ) where
  pub passed_some : IsFirst (in_both one_some other_some) true from until place → Passed (in_both one other) true (64 * from) (64 * place)
  passed_some first r low high = case (has one_some (r / 64)) refl
    where
      apart : in_both one_some other_some (r / 64) ≡ false
      apart = first.before (r / 64) (omega arith) (omega arith)

      right : (b : Bool) → (b && false) ≡ false
      right true = refl
      right false = refl

      case : (b : Bool) → has one_some (r / 64) ≡ b → in_both one other r ≡ false
      case false e = ap (λ b. b && has other r) (unmarked one one_some one_full (r / 64) r ones refl e)
      case true e =
          ap (λ b. has one r && b) (unmarked other other_some other_full (r / 64) r others refl (ap (λ b. b && has other_some (r / 64)) (sym e) ∙ apart))
          ∙ right (has one r)

  pub passed_full : IsFirst (in_both one_full other_full) false from until place → Passed (in_both one other) false (64 * from) (64 * place)
  passed_full first r low high =
      ap (λ b. b && has other r) (has_all one (r / 64) r refl (ones.all (r / 64) (left (has one_full (r / 64)) (has other_full (r / 64)) together)))
      ∙ has_all other (r / 64) r refl (others.all (r / 64) (right (has one_full (r / 64)) (has other_full (r / 64)) together))
    where
      together : in_both one_full other_full (r / 64) ≡ true
      together = first.before (r / 64) (omega arith) (omega arith)

      left : (a b : Bool) → (a && b) ≡ true → a ≡ true
      left true b h = refl
      left false b h = h

      right : (a b : Bool) → (a && b) ≡ true → b ≡ true
      right true b h = h
      right false b h = absurd (true≢false (sym h))
