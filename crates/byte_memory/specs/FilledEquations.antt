-- How lists are filled up. Equations, proved from `Filled`.
use Rattle.std.proofs.Common.{◌≡◌, ◌≤◌, ◌+◌, ◌-◌, ◌∙◌, ℕ, List, [], length, length-append, replicate, ap, add-sub_of_le}
use Rattle.std.proofs.Math.Nat.{sub-zero}
use Rattle.std.proofs.lemmas.List.{length-replicate}
use Rattle.byte_memory.specs.Filled.{filled_up}

pub length-filled_up : {A : Type 0} (first : List A) (size : ℕ) (item : A) → length first ≤ size → length (filled_up first size item) ≡ size
unfolding filled_up
length-filled_up first size item fits =
    length-append first (replicate (size - length first) item)
    ∙ ap (λ n. length first + n) (length-replicate (size - length first) item) ∙ add-sub_of_le fits

-- none are there
pub filled_none : {A : Type 0} (size : ℕ) (item : A) → filled_up [] size item ≡ replicate size item
unfolding filled_up
filled_none size item = ap (λ n. replicate n item) (sub-zero size)
