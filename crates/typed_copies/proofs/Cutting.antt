-- Whether an edge of a range lies inside a slot.
use Rattle.std.proofs.Common.{◌≡◌, ◌<◌, ◌≤◌, ◌+◌, ◌-◌, inl, inr, ℕ, Bool, true, false, List, [], ◌∷◌, length, get_or, refl, sym, ap, ◌∙◌, arith}
use Rattle.std.specs.Prelude.{nat_lt, ◌&&◌, ◌||◌}
use Rattle.std.specs.List.{list_any}
use Rattle.std.proofs.lemmas.Bool.{and_from, and_left, and_right, both_ways, cases_lt, cases_order, lt-ltb, le-ltb, or_from, or_left, or_right}
use Rattle.std.proofs.lemmas.List.Folds.{list_any_at, list_any_none}
use Rattle.std.proofs.lemmas.List.Elements.{All-from_get_or}
use Rattle.hs_base.specs.Access.{cuts_slot}
use Rattle.typed_copies.specs.Slots.{AreWithin, Splits}
use Rattle.typed_copies.proofs.Ascending.{Ascend, slots_apart}

-- does the edge lie inside the slot?
abbrev pub is_over : ℕ → ℕ → Bool
is_over edge s = nat_lt s edge && nat_lt edge (s + 4)

-- an edge inside a slot is found
cut_by : (slots : List ℕ) (edge k : ℕ) → k < length slots → get_or slots k 0 < edge → edge < get_or slots k 0 + 4 → list_any (is_over edge) slots ≡ true
cut_by slots edge k inside below above =
    let s = get_or slots k 0 in
    list_any_at (is_over edge) slots k 0 inside (and_from (nat_lt s edge) (nat_lt edge (s + 4)) (lt-ltb s edge below) (lt-ltb edge (s + 4) above))

-- a slot that begins below an edge that cuts none ends at it or before
pub uncut_at : (slots : List ℕ) (edge : ℕ) → list_any (is_over edge) slots ≡ false → (k : ℕ) → k < length slots → get_or slots k 0 < edge → get_or slots k 0 + 4 ≤ edge
uncut_at slots edge none k inside below =
    elim (cases_lt edge (get_or slots k 0 + 4)) [
      | inl over ↦ absurd (both_ways (list_any (is_over edge) slots) none (cut_by slots edge k inside below over))
      | inr past ↦ past
    ]

-- an edge that is behind a slot or before it is not inside
over_none : (s edge : ℕ) → (s < edge → s + 4 ≤ edge) → is_over edge s ≡ false
over_none s edge past =
    elim (cases_lt s edge) [
      | inl below ↦ and_right (nat_lt s edge) (nat_lt edge (s + 4)) (le-ltb edge (s + 4) (past below))
      | inr behind ↦ and_left (nat_lt s edge) (nat_lt edge (s + 4)) (le-ltb s edge behind)
    ]

-- an edge behind each slot that begins below it is inside none
pub uncut : (slots : List ℕ) (edge : ℕ) → ((k : ℕ) → k < length slots → get_or slots k 0 < edge → get_or slots k 0 + 4 ≤ edge) → list_any (is_over edge) slots ≡ false
uncut slots edge past =
    list_any_none (is_over edge) slots (All-from_get_or (λ s. is_over edge s ≡ false) slots 0 (λ k inside. over_none (get_or slots k 0) edge (past k inside)))

-- only the last slot below an edge can hold it
pub last_decides : (size : ℕ) (slots : List ℕ) (edge below : ℕ) → Ascend 0 size slots → Splits slots edge below → 0 < below → nat_lt edge (get_or slots (below - 1) 0 + 4) ≡ list_any (is_over edge) slots
last_decides size slots edge below ascend splits some =
    let last = get_or slots (below - 1) 0 in
    let within = splits.inside in
    elim (cases_lt edge (last + 4)) [
      | inl over ↦ lt-ltb edge (last + 4) over ∙ sym (cut_by slots edge (below - 1) (omega arith) (splits.below (below - 1) (omega arith)) over)
      | inr past ↦ le-ltb edge (last + 4) past ∙ sym (uncut slots edge (λ k inside under. elim (cases_order k (below - 1)) [
        | inl same ↦ let e = ap (λ i. get_or slots i 0) same in omega arith
        | inr (inl before) ↦ let apart = slots_apart 0 size slots k (below - 1) 0 ascend before (omega arith) in omega arith
        | inr (inr behind) ↦ absurd (let up = splits.above k (omega arith) inside in omega arith)
      ]))
    ]

-- an edge below which no slot begins is inside none
pub none_below : (slots : List ℕ) (edge below : ℕ) → Splits slots edge below → below ≡ 0 → false ≡ list_any (is_over edge) slots
none_below slots edge below splits none =
    sym (uncut slots edge (λ k inside under. absurd (let up = splits.above k (omega arith) inside in omega arith)))

-- the two edges of a range
or_swap : (a b c d : Bool) → ((a || b) || (c || d)) ≡ ((a || c) || (b || d))
or_swap true b c d = refl
or_swap false true true d = refl
or_swap false true false d = refl
or_swap false false c d = refl

-- a slot that passes one of two tests
any_or : (p q : ℕ → Bool) (xs : List ℕ) → list_any (λ s. p s || q s) xs ≡ (list_any p xs || list_any q xs)
any_or p q [] = refl
any_or p q (x ∷ xs) = ap (λ r. (p x || q x) || r) (any_or p q xs) ∙ or_swap (p x) (q x) (list_any p xs) (list_any q xs)

-- a range whose first edge is inside a slot
pub cut_first : (slots : List ℕ) (offset n : ℕ) → list_any (is_over offset) slots ≡ true → cuts_slot slots offset n ≡ true
cut_first slots offset n cut = any_or (is_over offset) (is_over (offset + n)) slots ∙ or_left (list_any (is_over offset) slots) (list_any (is_over (offset + n)) slots) cut

-- a range whose last edge is inside a slot
pub cut_last : (slots : List ℕ) (offset n : ℕ) → list_any (is_over (offset + n)) slots ≡ true → cuts_slot slots offset n ≡ true
cut_last slots offset n cut = any_or (is_over offset) (is_over (offset + n)) slots ∙ or_right (list_any (is_over offset) slots) (list_any (is_over (offset + n)) slots) cut

-- a range with no edge inside a slot
pub cut_nowhere : (slots : List ℕ) (offset n : ℕ) → list_any (is_over offset) slots ≡ false → list_any (is_over (offset + n)) slots ≡ false → cuts_slot slots offset n ≡ false
cut_nowhere slots offset n first last = any_or (is_over offset) (is_over (offset + n)) slots ∙ or_from (list_any (is_over offset) slots) (list_any (is_over (offset + n)) slots) first last

-- the slots between the edges of a range that cuts none
module _ (slots : List ℕ) (offset n first end : ℕ) (start : Splits slots offset first) (stop : Splits slots (offset + n) end) where
  -- no more slots begin below the first edge than below the last
  pub in_order : first ≤ end
  in_order =
      elim (cases_lt end first) [
        | inl less ↦ absurd (let length_above = start.inside in let low = start.below end less in let high = stop.above end (omega arith) (omega arith) in omega arith)
        | inr fine ↦ fine
      ]

  -- the slots from the first edge to the last lie whole within
  pub between : list_any (is_over offset) slots ≡ false → list_any (is_over (offset + n)) slots ≡ false → AreWithin slots offset n (record { first = first; count = end - first })
  between no_first no_last =
      let order = in_order in
      let length_above = stop.inside in
      record {
        inside = omega arith;
        before = λ k less. uncut_at slots offset no_first k (omega arith) (start.below k less);
        low = λ k less. start.above (first + k) (omega arith) (omega arith);
        high = λ k less. uncut_at slots (offset + n) no_last (first + k) (omega arith) (stop.below (first + k) (omega arith));
        behind = λ k more inside. stop.above k (omega arith) inside;
      }
