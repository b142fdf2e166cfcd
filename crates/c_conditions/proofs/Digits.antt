-- The value of digits, one digit on.
use Rattle.std.proofs.Common.{◌≡◌, ℕ, ◌+◌, ◌*◌, ◌<◌, ◌≤◌, List, [], ◌∷◌, length, get_or, take, drop, ap, sym, ◌∙◌, arith}
use Rattle.std.proofs.Math.Nat.{mul-le-mul_left}
use Rattle.std.proofs.lemmas.List.{take-append-drop}
use Rattle.std.proofs.lemmas.List.Sums.{fold-append}
use Rattle.std.specs.List.{fold}
use Rattle.c_lexer.specs.Bytes.{digit_value}
use Rattle.c_lexer.specs.Numbers.{digits_value}
use Rattle.c_lexer.specs.NumbersEquations.{digits_value_none, digits_value_more}

abbrev step : ℕ → ℕ → ℕ → ℕ
step base = λ value d. value * base + digit_value d

le_times : (a base d v : ℕ) → 0 < base → a * base + d ≤ v → a ≤ v
le_times a base d v h k = omega (arith, mul-le-mul_left a h, k)

grows : (base a : ℕ) (xs : List ℕ) → 0 < base → a ≤ fold (step base) a xs
grows base a [] h = omega arith
grows base a (x ∷ xs) h = le_times a base (digit_value x) _ h (grows base (a * base + digit_value x) xs h)

-- the first digits are worth no more than all
pub digits_value_front : (base : ℕ) (xs : List ℕ) (i : ℕ) → 0 < base → digits_value base (take i xs) ≤ digits_value base xs
unfolding digits_value
digits_value_front base xs i h =
    let whole : fold (step base) 0 xs ≡ fold (step base) (fold (step base) 0 (take i xs)) (drop i xs) = ap (fold (step base) 0) (sym (take-append-drop i xs)) ∙ fold-append (step base) 0 (take i xs) (drop i xs) in
    omega (arith, grows base (fold (step base) 0 (take i xs)) (drop i xs) h, whole)

-- where a front of the digits is too great, so are all
pub digits_value_over : (base : ℕ) (xs : List ℕ) (i limit : ℕ) → 0 < base → i < length xs → (digits_value base (take i xs) * base + digit_value (get_or xs i 0) < limit → ⊥) → digits_value base xs < limit → ⊥
digits_value_over base xs i limit h k over below =
    over (omega (arith, digits_value_more base xs i k, digits_value_front base xs (i + 1) h, below))

pub ruleset digit_steps = (digits_value_none, digits_value_more)
