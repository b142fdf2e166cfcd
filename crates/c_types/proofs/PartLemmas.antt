-- The part of an array of arrays that is no array, and how often it stands there.
use Rattle.std.proofs.Common.{rules, Bor, ◌≡◌, ◌⊎◌, ◌≤◌, ◌-◌, ◌*◌, ◌^◌, ℕ, zero, suc, Option, Some, None, option_map, IfSome, min, refl, ap, sym, subst, ◌∙◌, arith, inl, inr}
use Rattle.c_types.specs.declared.layouts.Layout.{Layout}
use Rattle.c_types.specs.declared.types.CType.{CType, size-CType, the_lemmas}
use Rattle.c_types.specs.declared.types.CType.TheVariants as c
use Rattle.c_types.specs.Types.{PlainType, Array}
use Rattle.c_types.specs.Layouts.{Known, ArraysFit, layout_of}

abbrev pub size_by : Known → PlainType → Option ℕ
size_by k type = option_map (λ (l : Layout). l.size) (layout_of k type)

pub record IsPart (k : Known) (whole part : PlainType) (count : ℕ) : Type 0 where
  pub size : size_by k whole ≡ option_map (λ (l : Layout). count * l.size) (layout_of k part)
  pub fits : ArraysFit k part
  pub room : (count ≡ 1) ⊎ IfSome (layout_of k part) (λ (l : Layout). count * l.size ≤ 268435456)

-- so many of a part that has bytes are no more than fit
capped : (n size : ℕ) → n * size ≤ 268435456 → n * size ≡ min n (2 ^ 32 - 1) * size
capped n zero h = omega arith
capped n (suc size) h =
    let less : n ≤ 268435456 = grind arith in
    let same : min n (2 ^ 32 - 1) ≡ n = omega arith in
    rw same refl

pub whole_part : (k : Known) (type : PlainType) → ArraysFit k type → IsPart k type type 1
whole_part k type f = record {
  size = elim (layout_of k type) as (λ (o : Option Layout). option_map (λ (l : Layout). l.size) o ≡ option_map (λ (l : Layout). 1 * l.size) o) [
    | None ↦ refl
    | Some l ↦ ap Some (omega arith)
  ];
  fits = f;
  room = inl refl;
}

-- so many arrays of so many elements
all_fit : (count n size : ℕ) → (count ≡ 1) ⊎ (count * (n * size) ≤ 268435456) → n * size ≤ 268435456 → count * n * size ≤ 268435456
all_fit count n size (inl one) h = rw one (let each : 1 * n * size ≡ n * size = grind arith in omega arith)
all_fit count n size (inr h) f = let each : count * n * size ≡ count * (n * size) = grind arith in omega arith

capped_size : (count n most size : ℕ) → most ≡ min (count * n) (2 ^ 32 - 1) → count * n * size ≤ 268435456 → count * (n * size) ≡ most * size
capped_size count n most size cap h =
    let each : count * (n * size) ≡ count * n * size = grind arith in
    each ∙ (capped (count * n) size h ∙ ap (λ m. m * size) (sym cap))

at_element : (k : Known) (whole element : PlainType) (count n most : ℕ) (o : Option Layout) → layout_of k element ≡ o →
    most ≡ min (count * n) (2 ^ 32 - 1) → IsPart k whole (Array element n) count → IsPart k whole element most
at_element k whole element count n most None e cap p =
    record { size = p.size ∙ rw e refl; fits = p.fits.0; room = inr (rw e tt) }
at_element k whole element count n most (Some l) e cap p =
    let one : n * l.size ≤ 268435456 = rw e at p.fits.1 in
    let all : (count ≡ 1) ⊎ (count * (n * l.size) ≤ 268435456) = rw e at p.room in
    let fit = all_fit count n l.size all one in
    let same = capped_size count n most l.size cap fit in
    let each : count * (n * l.size) ≡ count * n * l.size = grind arith in
    let size : size_by k whole ≡ Some (count * (n * l.size)) = rw e at p.size in
    record { size = size ∙ (ap Some same ∙ rw e refl); fits = p.fits.0; room = inr (rw e (omega arith)) }

-- an array's element stands in it so many times more
pub element_part : (k : Known) (whole part element : PlainType) (count n most : ℕ) →
    part ≡ Array element n → most ≡ min (count * n) (2 ^ 32 - 1) → IsPart k whole part count → IsPart k whole element most
element_part k whole part element count n most is cap p =
    let P : PlainType → Type 0 = λ y. IsPart k whole y count in
    at_element k whole element count n most (layout_of k element) refl cap (subst P is p)

pub element_below : (x : Bor CType) (n : ℕ) → size-CType x.now ≤ size-CType (c.Array x n)
element_below x n = search (rules, the_lemmas)
