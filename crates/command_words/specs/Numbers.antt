-- The numbers and names that words give.
use Rattle.std.specs.Prelude.{ℕ, ◌+◌, ◌*◌, ◌-◌, Bool, false, cond, not, ◌&&◌, nat_le, nat_eq, List, [], ◌∷◌, length, Option, Some, None}
use Rattle.std.specs.List.{list_all, fold}
use Rattle.std.specs.Char.{is_ascii_digit}

-- a file's name is not empty and does not begin with a dash
abbrev pub is_file : List ℕ → Bool
is_file [] = false
is_file (first ∷ rest) = not (nat_eq first 45)

-- the value of decimal digits
abbrev pub digits_value : List ℕ → ℕ
digits_value digits = fold (λ n d. 10 * n + (d - 48)) 0 digits

-- a number is 1 to 18 decimal digits
abbrev pub is_number : List ℕ → Bool
is_number word = nat_le 1 (length word) && nat_le (length word) 18 && list_all is_ascii_digit word

abbrev pub number_in : List ℕ → Option ℕ
number_in word = cond (is_number word) (Some (digits_value word)) None

-- a number that may be too small or too great
abbrev pub within : ℕ → ℕ → Option ℕ → Option ℕ
within least most None = None
within least most (Some n) = cond (nat_le least n && nat_le n most) (Some n) None
