-- Types by a part of them.
use Rattle.std.proofs.Common.{◌≡◌, ◌*◌, ◌∙◌, ℕ, Option, Some, None, option_map, refl, ap, sym, subst, arith}
use Rattle.std.specs.Option.{SomeIff}
use Rattle.c_types.specs.declared.layouts.Layout.{Layout}
use Rattle.c_types.specs.Types.{PlainType, Array}
use Rattle.c_types.specs.Layouts.{array_layout, layout_of}
use Rattle.c_types.specs.TagTable.{TagTable, known}
use Rattle.c_decls.specs.Layered.{IsSoOften}

-- a product that was there is the product
pub multiplied : (P : Type 0) (o : Option ℕ) (m n : ℕ) → SomeIff o P n → o ≡ Some m → m ≡ n
multiplied P None m n h e = cc
multiplied P (Some x) m n h e = let same : x ≡ m = cc in sym same ∙ h.1

more : (o : Option Layout) (size : Option ℕ) (count n : ℕ) →
    option_map (λ (l : Layout). l.size) o ≡ option_map (λ m. m * count) size →
    option_map (λ (l : Layout). l.size) (option_map (array_layout n) o) ≡ option_map (λ m. m * (count * n)) size
more None None count n h = refl
more None (Some m) count n h = cc
more (Some l) None count n h = cc
more (Some l) (Some m) count n h =
    let same : l.size ≡ m * count = cc in
    let order : n * (m * count) ≡ m * (count * n) = grind arith in
    ap Some (ap (λ k. n * k) same ∙ order)

-- what stands in each element stands in the array so many times more
pub in_array : (tags : TagTable) (part element whole : PlainType) (count n m : ℕ) → whole ≡ Array element n → m ≡ count * n →
    IsSoOften tags count part element → IsSoOften tags m part whole
in_array tags part element whole count n m is product h =
    subst (λ (type : PlainType). IsSoOften tags m part type) (sym is)
    (subst (λ (k : ℕ). IsSoOften tags k part (Array element n)) (sym product)
    (more (layout_of (known tags.completed) element) _ count n h))
