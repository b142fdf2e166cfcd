-- What all items of a list that pass a test have.
use Rattle.std.proofs.Common.{◌≡◌, ◌<◌, ℕ, suc, Bool, true, List, [], ◌∷◌, length, get_or, suc-le-suc, zero-lt-suc}
use Rattle.std.specs.Prelude.{All, filter}
use Rattle.std.proofs.lemmas.Bool.{cond_both}
use Rattle.std.proofs.lemmas.List.Elements.{All-nil, All-cons}

pub all_kept : {X : Type 0} (Q : X → Type 0) (p : X → Bool) (xs : List X) → ((k : ℕ) (d : X) → k < length xs → p (get_or xs k d) ≡ true → Q (get_or xs k d)) → All Q (filter p xs)
all_kept Q p [] each = All-nil Q
all_kept {X} Q p (x ∷ xs) each =
    let rest = all_kept Q p xs (λ k d less passes. each (suc k) d (suc-le-suc less) passes) in
    cond_both (p x) (x ∷ filter p xs) (filter p xs) (λ (l : List X). All Q l)
    (λ passes. All-cons Q x (filter p xs) (each 0 x (zero-lt-suc (length xs)) passes) rest) (λ _. rest)
