-- The layout of an array of bytes has no slots.
use Rattle.std.proofs.Common.{◌≡◌, ℕ, ◌*◌, List, [], ◌∷◌, refl, ap, ◌∙◌, arith}
use Rattle.std.specs.Prelude.{flat_map}
use Rattle.std.specs.List.{range_with_len}
use Rattle.c_types.specs.Layouts.{array_layout, number_layout, moved}
use Rattle.c_types.specs.declared.layouts.Layout.{Layout}

none_moved : (xs : List ℕ) → flat_map (λ k. moved (k * 1) []) xs ≡ []
none_moved [] = refl
none_moved (x ∷ xs) = none_moved xs

pub byte_layouts : (n : ℕ) → array_layout n (number_layout 1) ≡ record { size = n; align = 1; slots = [] }
byte_layouts n =
    let e : n * 1 ≡ n = omega arith in
    ap (λ (s : ℕ). let l : Layout = record { size = s; align = 1; slots = flat_map (λ k. moved (k * 1) []) (range_with_len 0 n) } in l) e
    ∙ ap (λ (s : List ℕ). let l : Layout = record { size = n; align = 1; slots = s } in l) (none_moved (range_with_len 0 n))
