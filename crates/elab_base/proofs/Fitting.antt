-- Whether arrays of arrays fit, by the part of them that is no array.
use Rattle.std.proofs.Common.{◌≡◌, ◌≢◌, ◌≤◌, ◌<◌, ◌-◌, ◌*◌, ◌^◌, ℕ, zero, suc, Option, Some, None, option_map, IfSome, min, refl, subst, arith}
use Rattle.c_types.specs.declared.layouts.Layout.{Layout}
use Rattle.c_types.specs.Types.{PlainType, Array}
use Rattle.c_types.specs.Layouts.{Known, ArraysFit, array_layout, layout_of}

-- a whole fits that has the part so often, where so many of the part fit
pub record FitsBy (k : Known) (whole part : PlainType) (count : ℕ) : Type 0 where
  pub some : 1 ≤ count
  pub fits : ArraysFit k part → IfSome (option_map (λ (l : Layout). l.size) (layout_of k part)) (λ n. count * n ≤ 268435456) → ArraysFit k whole

pub fits_once : (k : Known) (type : PlainType) → FitsBy k type type 1
fits_once k type = record { some = omega arith; fits = λ fit room. fit }

all_fit : (count n most size : ℕ) → 1 ≤ count → most ≡ min (count * n) (2 ^ 64 - 1) → most * size ≤ 268435456 → count * (n * size) ≤ 268435456
all_fit count n most zero some cap h = let none : n * 0 ≡ 0 = omega arith in rw none (let nothing : count * 0 ≡ 0 = omega arith in omega arith)
all_fit count n most (suc size) some cap h =
    let less : most ≤ most * suc size = grind arith in
    let same : most ≡ count * n = omega arith in
    let each : count * (n * suc size) ≡ count * n * suc size = grind arith in
    rw (each, ← same) h

each_fits : (count n size : ℕ) → 1 ≤ count → count * (n * size) ≤ 268435456 → n * size ≤ 268435456
each_fits zero n size some h = absurd (omega arith)
each_fits (suc count) n size some h = let less : n * size ≤ suc count * (n * size) = grind arith in omega arith

at_element : (k : Known) (element : PlainType) (count n most : ℕ) (o : Option Layout) → layout_of k element ≡ o → 1 ≤ count →
    (n ≡ 0 → most ≡ 1) → (n ≢ 0 → most ≡ min (count * n) (2 ^ 64 - 1)) → IfSome (option_map (λ (l : Layout). l.size) o) (λ s. most * s ≤ 268435456) →
    IfSome o (λ (l : Layout). n * l.size ≤ 268435456) × IfSome (option_map (λ (l : Layout). l.size) (option_map (array_layout n) o)) (λ s. count * s ≤ 268435456)
at_element k element count n most None e some none cap h = (tt, tt)
at_element k element count zero most (Some l) e some none cap h =
    let nothing : 0 * l.size ≡ 0 = omega arith in
    (omega arith, rw nothing (let product : count * 0 ≡ 0 = omega arith in omega arith))
at_element k element count (suc n) most (Some l) e some none cap h =
    let all = all_fit count (suc n) most l.size some (cap (λ z. absurd (omega arith))) h in (each_fits count (suc n) l.size some all, all)

most_some : (count n most : ℕ) → 1 ≤ count → (n ≡ 0 → most ≡ 1) → (n ≢ 0 → most ≡ min (count * n) (2 ^ 64 - 1)) → 1 ≤ most
most_some count zero most some none cap = let one = none refl in omega arith
most_some count (suc n) most some none cap =
    let is : most ≡ min (count * suc n) (2 ^ 64 - 1) = cap (λ z. absurd (omega arith)) in
    let less : count ≤ count * suc n = grind arith in
    omega arith

pub element_fits : (k : Known) (whole part element : PlainType) (count n most : ℕ) → part ≡ Array element n → (n ≡ 0 → most ≡ 1) →
    (n ≢ 0 → most ≡ min (count * n) (2 ^ 64 - 1)) → FitsBy k whole part count → FitsBy k whole element most
element_fits k whole part element count n most is none cap h =
    let P : PlainType → Type 0 = λ y. FitsBy k whole y count in
    let at : FitsBy k whole (Array element n) count = subst P is h in
    record {
      some = most_some count n most h.some none cap;
      fits = λ fit room. let both = at_element k element count n most (layout_of k element) refl h.some none cap room in at.fits (fit, both.0) both.1;
    }
