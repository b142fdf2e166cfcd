-- The value of digits, one digit on. Equations, proved from `Numbers`.
use Rattle.std.proofs.Common.{◌≡◌, ℕ, ◌+◌, ◌*◌, ◌<◌, List, [], length, get_or, take, refl}
use Rattle.std.proofs.lemmas.List.Sums.{fold_more}
use Rattle.c_lexer.specs.Bytes.{digit_value}
use Rattle.c_lexer.specs.Numbers.{digits_value}

-- no digits
pub digits_value_none : (base : ℕ) → digits_value base [] ≡ 0
unfolding digits_value
digits_value_none base = refl

-- one digit more
pub digits_value_more : (base : ℕ) (xs : List ℕ) (i : ℕ) → i < length xs → digits_value base (take (i + 1) xs) ≡ digits_value base (take i xs) * base + digit_value (get_or xs i 0)
unfolding digits_value
digits_value_more base xs i h = fold_more (λ value d. value * base + digit_value d) 0 xs i 0 h
