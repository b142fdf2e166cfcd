-- Lists with the same element at each place are the same.
use Rattle.std.proofs.Common.{◌≡◌, ℕ, suc, List, [], ◌∷◌, refl, sym, ap}
use Rattle.std.specs.Option.{unwrap_or}
use Rattle.std.specs.Prelude.{slice_get}
use Rattle.std.proofs.lemmas.Option.{none-some}

pub same_rows : {A : Type 0} (xs ys : List A) → ((k : ℕ) → slice_get xs k ≡ slice_get ys k) → xs ≡ ys
same_rows [] [] same = refl
same_rows [] (y ∷ ys) same = absurd (none-some y (same 0))
same_rows (x ∷ xs) [] same = absurd (none-some x (sym (same 0)))
same_rows (x ∷ xs) (y ∷ ys) same =
    let first = ap (λ found. unwrap_or found x) (same 0) in
    let rest = same_rows xs ys (λ k. same (suc k)) in
    λ i. first i ∷ rest i
