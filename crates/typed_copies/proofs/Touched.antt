-- Which bytes of two ranges lie in slots.
use Rattle.std.proofs.Common.{◌≡◌, ◌<◌, ◌+◌, ◌-◌, inl, inr, ℕ, Bool, true, false, List, get_or, refl, sym, ap, ◌∙◌, arith}
use Rattle.std.specs.Prelude.{nat_lt, ◌&&◌}
use Rattle.std.proofs.lemmas.Bool.{and_from, and_parts, cases_lt, lt-ltb, ltb-true}
use Rattle.std.proofs.lemmas.List.{get_or_default}
use Rattle.std.proofs.lemmas.List.Folds.{Any-from_list_any, list_any_at}
use Rattle.hs_base.specs.Access.{touches_slot}
use Rattle.typed_copies.specs.declared.slots.Within.{Within}
use Rattle.typed_copies.specs.Slots.{AreWithin, AtSameDistances}

-- where a byte of one range lies in a slot, so does that of the other
touches_too : (d : List ℕ) (to : ℕ) (s : List ℕ) (from n : ℕ) (into out : Within) → AreWithin d to n into → AreWithin s from n out → AtSameDistances d to into s from out → (k : ℕ) → k < n → touches_slot d (to + k) 1 ≡ true → touches_slot s (from + k) 1 ≡ true
touches_too d to s from n into out written read at k less touched =
    let any = Any-from_list_any (λ x. nat_lt x (to + k + 1) && nat_lt (to + k) (x + 4)) d touched in
    let i = any.0 in
    let x = get_or d i 0 in
    let x_is : x ≡ any.1 = get_or_default d i 0 any.1 any.2 ∙ any.3 in
    let both = and_parts (nat_lt any.1 (to + k + 1)) (nat_lt (to + k) (any.1 + 4)) any.4 in
    let begins = ltb-true any.1 (to + k + 1) both.0 in
    let ends = ltb-true (to + k) (any.1 + 4) both.1 in
    let inside = any.2 in
    elim (cases_lt i into.first) [
      | inl before ↦ absurd (let h = written.before i before in omega arith)
      | inr from_first ↦ elim (cases_lt i (into.first + into.count)) [
        | inr behind ↦ absurd (let h = written.behind i behind inside in omega arith)
        | inl within ↦ let m = i - into.first in
            let y = get_or s (out.first + m) 0 in
            let place : into.first + m ≡ i = omega arith in
            let here = ap (λ j. get_or d j 0) place in
            let low = written.low m (omega arith) in
            let low' = read.low m (omega (arith, at.many)) in
            let same = at.same m (omega arith) in
            list_any_at (λ z. nat_lt z (from + k + 1) && nat_lt (from + k) (z + 4)) s (out.first + m) 0 (omega (arith, at.many, read.inside))
            (and_from (nat_lt y (from + k + 1)) (nat_lt (from + k) (y + 4)) (lt-ltb y (from + k + 1) (omega arith)) (lt-ltb (from + k) (y + 4) (omega arith)))
      ]
    ]

-- two tests that follow from one another
same_answer : (a b : Bool) → (a ≡ true → b ≡ true) → (b ≡ true → a ≡ true) → a ≡ b
same_answer true b there back = sym (there refl)
same_answer false true there back = back refl
same_answer false false there back = refl

-- a byte of one range lies in a slot exactly where that of the other does
pub touches_alike : (d : List ℕ) (to : ℕ) (s : List ℕ) (from n : ℕ) (into out : Within) → AreWithin d to n into → AreWithin s from n out → AtSameDistances d to into s from out → (k : ℕ) → k < n → touches_slot d (to + k) 1 ≡ touches_slot s (from + k) 1
touches_alike d to s from n into out written read at k less =
    let back : AtSameDistances s from out d to into = record { many = sym at.many; same = λ j below. sym (at.same j (omega (arith, at.many))) } in
    same_answer (touches_slot d (to + k) 1) (touches_slot s (from + k) 1) (touches_too d to s from n into out written read at k less) (touches_too s from d to n out into read written back k less)
