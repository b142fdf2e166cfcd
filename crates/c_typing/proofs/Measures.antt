-- The size of an array by the part of it that is no array.
use Rattle.std.proofs.Common.{◌≡◌, ◌⊎◌, ◌≤◌, ◌<◌, ◌-◌, ◌*◌, ◌^◌, ℕ, zero, suc, Option, Some, None, option_map, IfSome, IfOk, Result, Ok, Err, min, refl, ap, sym, subst, ◌∙◌, arith, inl, inr}
use Rattle.c_types.specs.declared.layouts.Layout.{Layout}
use Rattle.hs_base.specs.declared.items.NoMemory.{NoMemory}
use Rattle.c_types.specs.Types.{PlainType, Array}
use Rattle.c_types.specs.Layouts.{Known, array_layout, layout_of}
use Rattle.c_types.specs.TagTable.{TagTable, known, size_in}

-- the size of a whole that has the part so often: no bytes are none, and fewer than are counted are so many
abbrev pub IsCounted : Option ℕ → ℕ → Option ℕ → Type 0
IsCounted whole count None = whole ≡ None
IsCounted whole count (Some size) = (size ≡ 0 → whole ≡ Some 0) × (count < 2 ^ 64 - 1 → whole ≡ Some (size * count))

pub counted_once : (size : Option ℕ) → IsCounted size 1 size
counted_once None = refl
counted_once (Some size) = (λ e. ap Some e, λ h. ap Some (omega arith))

more_counted : (whole : Option ℕ) (count n most size : ℕ) → most ≡ min (count * n) (2 ^ 64 - 1) → IsCounted whole count (Some (n * size)) →
    IsCounted whole most (Some size)
more_counted whole count zero most size cap h =
    let none : 0 * size ≡ 0 = omega arith in
    let nothing : most ≡ 0 = (let product : count * 0 ≡ 0 = omega arith in omega arith) in
    (λ e. h.0 none, λ w. h.0 none ∙ ap Some (rw nothing (omega arith)))
more_counted whole count (suc n) most size cap h = (
  λ e. h.0 (rw e (omega arith)),
  λ w.
      let all : most ≡ count * suc n = omega arith in
      let less : count ≤ count * suc n = grind arith in
      let each : suc n * size * count ≡ size * (count * suc n) = grind arith in
      h.1 (omega arith) ∙ ap Some (each ∙ ap (λ m. size * m) (sym all)),
)

at_element : (whole : Option ℕ) (count n most : ℕ) (o : Option Layout) → most ≡ min (count * n) (2 ^ 64 - 1) →
    IsCounted whole count (option_map (λ (l : Layout). l.size) (option_map (array_layout n) o)) → IsCounted whole most (option_map (λ (l : Layout). l.size) o)
at_element whole count n most None cap h = h
at_element whole count n most (Some l) cap h = more_counted whole count n most l.size cap h

-- an array's element stands in it so many times more
pub element_counted : (table : TagTable) (whole : Option ℕ) (part element : PlainType) (count n most : ℕ) → part ≡ Array element n →
    most ≡ min (count * n) (2 ^ 64 - 1) → IsCounted whole count (size_in table part) → IsCounted whole most (size_in table element)
element_counted table whole part element count n most is cap h =
    at_element whole count n most (layout_of (known table.completed) element) cap (subst (λ (y : PlainType). IsCounted whole count (size_in table y)) is h)

-- what was counted of a part is the size of the whole
pub all_counted : (whole size all : Option ℕ) (count : ℕ) → IsCounted whole count size → all ≡ option_map (λ n. n * count) size →
    IfSome size (λ n. (n ≡ 0) ⊎ (count < 2 ^ 64 - 1)) → all ≡ whole
all_counted whole None all count h e s = e ∙ sym h
all_counted whole (Some n) all count h e (inl none) = e ∙ (ap Some (rw none (omega arith)) ∙ sym (h.0 none))
all_counted whole (Some n) all count h e (inr less) = e ∙ sym (h.1 less)

pub measured_ok : (r : Result (Option ℕ) NoMemory) (whole size part : Option ℕ) (count : ℕ) → IsCounted whole count part → size ≡ part →
    IfOk r (λ all. all ≡ option_map (λ n. n * count) size) → IfOk r (λ _. IfSome size (λ n. (n ≡ 0) ⊎ (count < 2 ^ 64 - 1))) → IfOk r (λ all. all ≡ whole)
measured_ok (Ok all) whole size part count h e is s = all_counted whole size all count (subst (λ (o : Option ℕ). IsCounted whole count o) (sym e) h) is s
measured_ok (Err e) whole size part count h same is s = tt

-- the size of a whole by that of a part that stands in it so often
pub sized_by_part : (r : Result (Option ℕ) NoMemory) (whole size part : Option ℕ) (count : ℕ) → IfOk r (λ all. all ≡ option_map (λ n. n * count) size) → size ≡ part →
    whole ≡ option_map (λ n. n * count) part → IfOk r (λ all. all ≡ whole)
sized_by_part (Ok all) whole size part count h e w = h ∙ ap (option_map (λ n. n * count)) e ∙ sym w
sized_by_part (Err e) whole size part count h same w = tt
