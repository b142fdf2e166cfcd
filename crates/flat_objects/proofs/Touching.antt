-- Which accesses touch a slot.
use Rattle.std.proofs.Common.{◌≡◌, ◌<◌, ◌≤◌, ◌+◌, ◌-◌, ◌*◌, ◌/◌, ◌%◌, ◌⊎◌, ◌↔◌, inl, inr, ℕ, Bool, true, false, List, get_or, refl, sym, ap, ◌∙◌, subst, arith}
use Rattle.std.specs.Prelude.{Contains, IsTrue, nat_lt, nat_eq, ◌&&◌}
use Rattle.std.proofs.lemmas.Bool.{both_ways, and_from, and_parts, lt-ltb, ltb-true, eq-eqb, eqb-true, cases_eq, false_from_ne_true}
use Rattle.std.proofs.lemmas.List.{get_or_default}
use Rattle.std.proofs.lemmas.List.Folds.{Any-from_list_any, list_any_at}
use Rattle.c_types.specs.Layouts.{AreSlots}
use Rattle.hs_base.specs.Access.{touches_slot, is_slot}
use Rattle.flat_objects.proofs.Ascending.{slot_aligned}

abbrev pub IsWidth : ℕ → Type 0
IsWidth n = (n ≡ 1) ⊎ ((n ≡ 2) ⊎ ((n ≡ 4) ⊎ (n ≡ 8)))

-- a slot with a byte among some
pub record Touched (slots : List ℕ) (offset n : ℕ) : Type 0 where
  pub slot : ℕ
  pub there : Contains slots slot
  pub before : slot < offset + n
  pub behind : offset < slot + 4

pub touched : (slots : List ℕ) (offset n : ℕ) → Touched slots offset n → touches_slot slots offset n ≡ true
touched slots offset n t =
    let k = t.there.0 in
    let s : get_or slots k t.slot ≡ t.slot = t.there.2 in
    let before = t.before in
    let behind = t.behind in
    list_any_at (λ s. nat_lt s (offset + n) && nat_lt offset (s + 4)) slots k t.slot t.there.1
    (and_from (nat_lt (get_or slots k t.slot) (offset + n)) (nat_lt offset (get_or slots k t.slot + 4)) (lt-ltb (get_or slots k t.slot) (offset + n) (omega arith)) (lt-ltb offset (get_or slots k t.slot + 4) (omega arith)))

pub which_touched : (slots : List ℕ) (offset n : ℕ) → touches_slot slots offset n ≡ true → Touched slots offset n
which_touched slots offset n h =
    let any = Any-from_list_any (λ s. nat_lt s (offset + n) && nat_lt offset (s + 4)) slots h in
    let s = any.1 in
    let both = and_parts (nat_lt s (offset + n)) (nat_lt offset (s + 4)) any.4 in
    record { slot = s; there = (any.0, any.2, any.3); before = ltb-true s (offset + n) both.0; behind = ltb-true offset (s + 4) both.1 }

pub untouched : (slots : List ℕ) (offset n : ℕ) → (Touched slots offset n → ⊥) → touches_slot slots offset n ≡ false
untouched slots offset n not = false_from_ne_true (touches_slot slots offset n) (λ h. not (which_touched slots offset n h))

-- part of what touches no slot touches none
pub untouched_part : (slots : List ℕ) (offset n from m : ℕ) → offset ≤ from → from + m ≤ offset + n → touches_slot slots offset n ≡ false → touches_slot slots from m ≡ false
untouched_part slots offset n from m low high clear =
    untouched slots from m (λ t. let all = touched slots offset n (record { slot = t.slot; there = t.there; before = omega (arith, t.before); behind = omega (arith, t.behind) }) in cc)

pub slot_is_there : (slots : List ℕ) (offset : ℕ) → is_slot slots offset ≡ true → Contains slots offset
slot_is_there slots offset h =
    let any = Any-from_list_any (λ s. nat_eq s offset) slots h in
    let e : any.1 ≡ offset = eqb-true any.1 offset any.4 in
    (any.0, any.2, get_or_default slots any.0 offset any.1 any.2 ∙ any.3 ∙ e)

pub there_is_slot : (slots : List ℕ) (offset : ℕ) → Contains slots offset → is_slot slots offset ≡ true
there_is_slot slots offset at =
    list_any_at (λ s. nat_eq s offset) slots at.0 offset at.1 (eq-eqb (get_or slots at.0 offset) offset at.2)

-- an aligned access of 1, 2, 4 or 8 bytes touches the slot that stands at its last multiple of 4, or one of 8 bytes the next
pub one_or_other : (offset n slot : ℕ) → IsWidth n → offset % n ≡ 0 → slot % 4 ≡ 0 → slot < offset + n → offset < slot + 4 → (slot ≡ offset / 4 * 4) ⊎ ((n ≡ 8) × (slot ≡ offset + 4))
one_or_other offset n slot (inl e) aligned whole before behind = inl (omega arith)
one_or_other offset n slot (inr (inl e)) aligned whole before behind = let even : offset % 2 ≡ 0 = ap (λ m. offset % m) (sym e) ∙ aligned in inl (omega arith)
one_or_other offset n slot (inr (inr (inl e))) aligned whole before behind = let even : offset % 4 ≡ 0 = ap (λ m. offset % m) (sym e) ∙ aligned in inl (omega arith)
one_or_other offset n slot (inr (inr (inr e))) aligned whole before behind =
    let even : offset % 8 ≡ 0 = ap (λ m. offset % m) (sym e) ∙ aligned in
    elim (cases_eq slot (offset + 4)) [ inl same ↦ inr (e, same) | inr other ↦ inl (omega arith) ]

pub touches_first : (slots : List ℕ) (offset n : ℕ) → IsWidth n → offset % n ≡ 0 → Contains slots (offset / 4 * 4) → touches_slot slots offset n ≡ true
touches_first slots offset n (inl e) aligned at = touched slots offset n (record { slot = offset / 4 * 4; there = at; before = omega arith; behind = omega arith })
touches_first slots offset n (inr (inl e)) aligned at = touched slots offset n (record { slot = offset / 4 * 4; there = at; before = omega arith; behind = omega arith })
touches_first slots offset n (inr (inr (inl e))) aligned at = touched slots offset n (record { slot = offset / 4 * 4; there = at; before = omega arith; behind = omega arith })
touches_first slots offset n (inr (inr (inr e))) aligned at = touched slots offset n (record { slot = offset / 4 * 4; there = at; before = omega arith; behind = omega arith })

pub touches_second : (slots : List ℕ) (offset n : ℕ) → n ≡ 8 → Contains slots (offset + 4) → touches_slot slots offset n ≡ true
touches_second slots offset n e at = touched slots offset n (record { slot = offset + 4; there = at; before = omega arith; behind = omega arith })

pub touches_none : (size : ℕ) (slots : List ℕ) (offset n : ℕ) → AreSlots 0 size slots → IsWidth n → offset % n ≡ 0 → (Contains slots (offset / 4 * 4) → ⊥) → (n ≡ 8 → Contains slots (offset + 4) → ⊥) → touches_slot slots offset n ≡ false
touches_none size slots offset n are width aligned first second =
    untouched slots offset n (λ t. elim (one_or_other offset n t.slot width aligned (slot_aligned 0 size slots t.slot are t.there) t.before t.behind) [
      | inl e ↦ first (subst (Contains slots) e t.there)
      | inr both ↦ second both.0 (subst (Contains slots) both.1 t.there)
    ])

-- what a test that decides a fact tells
pub told : (r : Bool) (P : Type 0) → (IsTrue r ↔ P) → r ≡ true → P
told r P h e = h.0 e

pub told_not : (r : Bool) (P : Type 0) → (IsTrue r ↔ P) → r ≡ false → P → ⊥
told_not r P h e p = both_ways r e (h.1 p)

-- the second of two tests, where the first found nothing
pub second_decides : (size : ℕ) (slots : List ℕ) (offset n : ℕ) (r : Bool) → AreSlots 0 size slots → IsWidth n → offset % n ≡ 0 → (Contains slots (offset / 4 * 4) → ⊥) → n ≡ 8 → (IsTrue r ↔ Contains slots (offset + 4)) → r ≡ touches_slot slots offset n
second_decides size slots offset n true are width aligned first eight h = sym (touches_second slots offset n eight (h.0 refl))
second_decides size slots offset n false are width aligned first eight h = sym (touches_none size slots offset n are width aligned first (λ _ at. both_ways false refl (h.1 at)))

-- each slot that may be touched was tried
pub found_slot : (slots : List ℕ) (offset n slot : ℕ) (r : Bool) → (IsTrue r ↔ Contains slots slot) → r ≡ true → offset - 3 ≤ slot → slot < offset + n → true ≡ touches_slot slots offset n
found_slot slots offset n slot r h e low high =
    sym (touched slots offset n (record { slot = slot; there = h.0 e; before = high; behind = omega arith }))

pub found_none : (slots : List ℕ) (offset n : ℕ) → ((slot : ℕ) → offset - 3 ≤ slot → slot < offset + n → Contains slots slot → ⊥) → false ≡ touches_slot slots offset n
found_none slots offset n none =
    sym (untouched slots offset n (λ t. none t.slot (omega (arith, t.behind)) t.before t.there))
