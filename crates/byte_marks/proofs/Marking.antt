-- The marks of an object, slot by slot.
use Rattle.std.proofs.Common.{◌≡◌, ◌<◌, ◌≤◌, ◌+◌, ◌∙◌, inl, inr, ℕ, Bool, true, false, cond, List, [], ◌∷◌, length, length-take, get_or, take, set, refl, sym, ap, arith}
use Rattle.std.specs.Prelude.{◌&&◌, ◌||◌, AllPairs, nat_eq, nat_lt, slice_index}
use Rattle.std.proofs.Math.ListN.{length-set}
use Rattle.std.proofs.lemmas.Bool.{cases_eq, cases_lt, cond-true, cond-false, eq-eqb, ne_eqb, lt-ltb, le-ltb}
use Rattle.std.proofs.lemmas.Grind.{get_or-set_at}
use Rattle.std.proofs.lemmas.List.{get_or-set_other, get_or-take, get_or_default}
use Rattle.std.proofs.lemmas.List.Folds.{list_any_more, list_any_none}
use Rattle.hs_base.specs.Access.{is_slot, touches_slot}
use Rattle.byte_marks.specs.declared.TheConstants.{NOTHING, BYTE, SLOT, LATER}
use Rattle.byte_marks.specs.Marks.{ChangesOnly, Filled, HasMarks, IsSlotMarked, mark_in}

-- Tests

or_right : (a b : Bool) → b ≡ true → (a || b) ≡ true
or_right true b h = refl
or_right false b h = h

or_none : (a b : Bool) → b ≡ false → (a || b) ≡ a
or_none true b h = refl
or_none false b h = h

and_both : (a b : Bool) → a ≡ true → b ≡ true → (a && b) ≡ true
and_both true b h k = k
and_both false b h k = absurd (cc)

and_first : (a b : Bool) → a ≡ false → (a && b) ≡ false
and_first true b h = absurd (cc)
and_first false b h = refl

and_second : (a b : Bool) → b ≡ false → (a && b) ≡ false
and_second true b h = h
and_second false b h = refl

-- One slot more

module _ (slots : List ℕ) (k : ℕ) (below : k < length slots) where
  abbrev next : ℕ
  next = get_or slots k 0

  more_slots : (j : ℕ) → is_slot (take (k + 1) slots) j ≡ (is_slot (take k slots) j || nat_eq next j)
  more_slots j = list_any_more (λ s. nat_eq s j) slots k 0 below

  more_touched : (j : ℕ) → touches_slot (take (k + 1) slots) j 1 ≡ (touches_slot (take k slots) j 1 || (nat_lt next (j + 1) && nat_lt j (next + 4)))
  more_touched j = list_any_more (λ s. nat_lt s (j + 1) && nat_lt j (s + 4)) slots k 0 below

  mark_first : mark_in (take (k + 1) slots) next ≡ SLOT
  mark_first =
      cond-true (is_slot (take (k + 1) slots) next) SLOT (cond (touches_slot (take (k + 1) slots) next 1) LATER BYTE)
      (more_slots next ∙ or_right (is_slot (take k slots) next) (nat_eq next next) (eq-eqb next next refl))

  mark_later : AllPairs (λ a b. a + 4 ≤ b) slots → (j : ℕ) → next < j → j < next + 4 → mark_in (take (k + 1) slots) j ≡ LATER
  mark_later apart j above low =
      let none : is_slot (take k slots) j ≡ false =
      list_any_none (λ s. nat_eq s j) (take k slots)
      (λ i d less. let inside : i < k = omega (arith, length-take k slots) in
      let gap : get_or slots i d + 4 ≤ get_or slots k d = apart i k d inside below in
      let same = get_or-take k slots i d inside in
      let last = get_or_default slots k d 0 below in
      ne_eqb (get_or (take k slots) i d) j (λ e. omega arith)) in
      let not_slot : is_slot (take (k + 1) slots) j ≡ false = more_slots j ∙ or_none (is_slot (take k slots) j) (nat_eq next j) (ne_eqb next j (λ e. omega arith)) ∙ none in
      let touches : touches_slot (take (k + 1) slots) j 1 ≡ true =
      more_touched j
      ∙ or_right (touches_slot (take k slots) j 1) (nat_lt next (j + 1) && nat_lt j (next + 4))
      (and_both (nat_lt next (j + 1)) (nat_lt j (next + 4)) (lt-ltb next (j + 1) (omega arith)) (lt-ltb j (next + 4) (omega arith))) in
      cond-false (is_slot (take (k + 1) slots) j) SLOT (cond (touches_slot (take (k + 1) slots) j 1) LATER BYTE) not_slot
      ∙ cond-true (touches_slot (take (k + 1) slots) j 1) LATER BYTE touches

  mark_same : (j : ℕ) → nat_eq next j ≡ false → (nat_lt next (j + 1) && nat_lt j (next + 4)) ≡ false → mark_in (take (k + 1) slots) j ≡ mark_in (take k slots) j
  mark_same j other beside =
      let slots_same : is_slot (take (k + 1) slots) j ≡ is_slot (take k slots) j = more_slots j ∙ or_none (is_slot (take k slots) j) (nat_eq next j) other in
      let touched_same : touches_slot (take (k + 1) slots) j 1 ≡ touches_slot (take k slots) j 1 =
      more_touched j ∙ or_none (touches_slot (take k slots) j 1) (nat_lt next (j + 1) && nat_lt j (next + 4)) beside in
      λ i. cond (slots_same i) SLOT (cond (touched_same i) LATER BYTE)

  mark_before : (j : ℕ) → j < next → mark_in (take (k + 1) slots) j ≡ mark_in (take k slots) j
  mark_before j less =
      mark_same j (ne_eqb next j (λ e. omega arith)) (and_first (nat_lt next (j + 1)) (nat_lt j (next + 4)) (le-ltb next (j + 1) (omega arith)))

  mark_past : (j : ℕ) → next + 4 ≤ j → mark_in (take (k + 1) slots) j ≡ mark_in (take k slots) j
  mark_past j past =
      mark_same j (ne_eqb next j (λ e. omega arith)) (and_second (nat_lt next (j + 1)) (nat_lt j (next + 4)) (le-ltb j (next + 4) (omega arith)))

-- The slots that are marked so far

-- the bytes of an object are marked by the first k of its slots, and no other mark has changed
pub record SoFar (before after : List ℕ) (start size : ℕ) (slots : List ℕ) (k : ℕ) : Type 0 where
  pub marked : (j : ℕ) → j < size → slice_index after (start + j) ≡ mark_in (take k slots) j
  pub outside : ChangesOnly before after start size

pub none_so_far : (marks : List ℕ) (start size : ℕ) (slots : List ℕ) → ((j : ℕ) → j < size → slice_index marks (start + j) ≡ BYTE) → SoFar marks marks start size slots 0
none_so_far marks start size slots bytes =
    record { marked = bytes; outside = record { long = refl; below = λ k less. refl; above = λ k less. refl } }

module _ (before after marks : List ℕ) (start size : ℕ) (slots : List ℕ) (k slot : ℕ) (so_far : SoFar before after start size slots k) (done : IsSlotMarked after marks (start + slot)) (is : slot ≡ get_or slots k 0) (below : k < length slots) (inside : slot + 4 ≤ size) where
  pub one_more : AllPairs (λ a b. a + 4 ≤ b) slots → SoFar before marks start size slots (k + 1)
  one_more apart = record {
    marked = λ j less. elim (cases_lt j slot) [
      | inl low ↦ done.outside.below (start + j) (omega arith) ∙ so_far.marked j less ∙ sym (mark_before slots k below j (omega arith))
      | inr high ↦ elim (cases_lt j (slot + 4)) [
        | inr past ↦ done.outside.above (start + j) (omega arith) ∙ so_far.marked j less ∙ sym (mark_past slots k below j (omega arith))
        | inl within ↦ elim (cases_eq j slot) [
          | inl same ↦ ap (λ n. slice_index marks (start + n)) same ∙ done.first ∙ sym (ap (mark_in (take (k + 1) slots)) (same ∙ is) ∙ mark_first slots k below)
          | inr differ ↦ done.later (start + j) (omega arith) (omega arith) ∙ sym (mark_later slots k below apart j (omega arith) (omega arith))
        ]
      ]
    ];
    outside = record {
      long = done.outside.long ∙ so_far.outside.long;
      below = λ n less. done.outside.below n (omega arith) ∙ so_far.outside.below n less;
      above = λ n less. done.outside.above n (omega arith) ∙ so_far.outside.above n less;
    };
  }

take_whole : (xs : List ℕ) → take (length xs) xs ≡ xs
take_whole [] = refl
take_whole (x ∷ xs) = λ i. x ∷ take_whole xs i

pub all_marked : (before after : List ℕ) (start size : ℕ) (slots : List ℕ) (k : ℕ) → SoFar before after start size slots k → k ≡ length slots → (j : ℕ) → j < size → slice_index after (start + j) ≡ mark_in slots j
all_marked before after start size slots k so_far all j less =
    so_far.marked j less ∙ ap (λ l. mark_in l j) (ap (λ n. take n slots) all ∙ take_whole slots)

-- One slot

module _ (marks : List ℕ) (at : ℕ) (inside : at + 4 ≤ length marks) where
  abbrev one : List ℕ
  one = set marks at SLOT

  abbrev two : List ℕ
  two = set one (at + 1) LATER

  abbrev three : List ℕ
  three = set two (at + 2) LATER

  abbrev four : List ℕ
  four = set three (at + 3) LATER

  two_long : length two ≡ length marks
  two_long = length-set one (at + 1) LATER ∙ length-set marks at SLOT

  three_long : length three ≡ length marks
  three_long = length-set two (at + 2) LATER ∙ two_long

  other : (k : ℕ) → (k ≡ at → ⊥) → (k ≡ at + 1 → ⊥) → (k ≡ at + 2 → ⊥) → (k ≡ at + 3 → ⊥) → get_or four k 0 ≡ get_or marks k 0
  other k a b c d =
      get_or-set_other three (at + 3) k LATER 0 d ∙ get_or-set_other two (at + 2) k LATER 0 c ∙ get_or-set_other one (at + 1) k LATER 0 b ∙ get_or-set_other marks at k SLOT 0 a

  pub slot_marked : IsSlotMarked marks four at
  slot_marked = record {
    first = get_or-set_other three (at + 3) at LATER 0 (λ e. omega arith) ∙ get_or-set_other two (at + 2) at LATER 0 (λ e. omega arith) ∙ get_or-set_other one (at + 1) at LATER 0 (λ e. omega arith)
        ∙ get_or-set_at marks at at SLOT 0 refl (omega arith);
    later = λ k above low. elim (cases_eq k (at + 3)) [
      | inl e ↦ get_or-set_at three (at + 3) k LATER 0 e (omega (arith, three_long))
      | inr c ↦ get_or-set_other three (at + 3) k LATER 0 c ∙ elim (cases_eq k (at + 2)) [
        | inl e ↦ get_or-set_at two (at + 2) k LATER 0 e (omega (arith, two_long))
        | inr b ↦ get_or-set_other two (at + 2) k LATER 0 b ∙ get_or-set_at one (at + 1) k LATER 0 (omega arith) (omega (arith, length-set marks at SLOT))
      ]
    ];
    outside = record {
      long = length-set three (at + 3) LATER ∙ three_long;
      below = λ k less. other k (λ e. omega arith) (λ e. omega arith) (λ e. omega arith) (λ e. omega arith);
      above = λ k less. other k (λ e. omega arith) (λ e. omega arith) (λ e. omega arith) (λ e. omega arith);
    };
  }

-- An object

-- bytes are filled, the one behind them is set to that of no object, and the slots are marked
module _ (before filled : List ℕ) (start size : ℕ) (bytes : Filled before filled start size BYTE) (inside : start + size < length before) where
  abbrev ended : List ℕ
  ended = set filled (start + size) NOTHING

  pub still_bytes : (k : ℕ) → k < size → slice_index ended (start + k) ≡ BYTE
  still_bytes k less = get_or-set_other filled (start + size) (start + k) NOTHING 0 (λ e. omega arith) ∙ bytes.inside (start + k) (omega arith) (omega arith)

  pub ended_long : length ended ≡ length before
  ended_long = length-set filled (start + size) NOTHING ∙ bytes.long

  module _ (after : List ℕ) (slots : List ℕ) (outside : ChangesOnly ended after start size) where
    pub has_marks : ((k : ℕ) → k < size → slice_index after (start + k) ≡ mark_in slots k) → HasMarks after start size slots
    has_marks marked = record {
      bytes = marked;
      behind = outside.above (start + size) (omega arith) ∙ get_or-set_at filled (start + size) (start + size) NOTHING 0 refl (omega (arith, bytes.long));
    }

    pub changes_only : ChangesOnly before after start (size + 1)
    changes_only = record {
      long = outside.long ∙ ended_long;
      below = λ k less. outside.below k less ∙ get_or-set_other filled (start + size) k NOTHING 0 (λ e. omega arith) ∙ bytes.below k less;
      above = λ k less. outside.above k (omega arith) ∙ get_or-set_other filled (start + size) k NOTHING 0 (λ e. omega arith) ∙ bytes.above k (omega arith);
    }
