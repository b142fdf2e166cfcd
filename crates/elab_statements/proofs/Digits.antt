-- A number in bytes, one byte after another.
use Rattle.std.proofs.Common.{◌≡◌, ◌<◌, ◌+◌, ◌-◌, ◌%◌, ◌/◌, ℕ, suc, List, [], ◌∷◌, ◌++◌, ap, sym, ◌∙◌, arith, append_assoc}
use Rattle.elaboration.specs.Initializers.{bytes_of}

pub digit_next : (bytes : List ℕ) (width made n : ℕ) → made < width →
    (bytes ++ n % 256 ∷ []) ++ bytes_of (width - (made + 1)) (n / 256) ≡ bytes ++ bytes_of (width - made) n
digit_next bytes width made n h =
    let left : width - made ≡ suc (width - (made + 1)) = omega arith in
    append_assoc bytes (n % 256 ∷ []) (bytes_of (width - (made + 1)) (n / 256))
    ∙ sym (ap (λ (k : ℕ). bytes ++ bytes_of k n) left)
