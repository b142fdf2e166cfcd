-- The digits of a numeral, from the last to the first.
use Rattle.std.proofs.Common.{◌≡◌, ◌≢◌, ◌≤◌, ◌<◌, ◌+◌, ◌-◌, ◌/◌, ◌%◌, ◌*◌, ◌^◌, ℕ, Bool, cond, List, [], ◌∷◌, ◌++◌, map, drop, length, set, refl, sym, ap, ◌∙◌, subst, ◌⊎◌, ⊎_elim, append_assoc, arith, get_or}
use Rattle.std.specs.Fmt.{decimal, digit_glyph}
use Rattle.std.specs.Int.Digits.{digits_of, number_from_digits, AllBelowBase}
use Rattle.std.proofs.lemmas.Bool.{ne_eqb, cases_eq, lt-ltb}
use Rattle.std.proofs.lemmas.List.{map-append, drop-set, drop_all}
use Rattle.std.proofs.Math.Nat.{div-eq_of_lt, mod-eq_of_lt}
use Rattle.std.proofs.lemmas.Int.Digits.{digits_of_step, length-digits_of-le, all_below_base_digits_of, number_digits_of, first_digits_of}
use Rattle.std.proofs.lemmas.Fmt.{decimal-digits_of, decimal_digit}
use Rattle.c_print.specs.Print.{numeral_digits, numeral}

pub no_digits : (base : ℕ) → digits_of base 0 ≡ []
no_digits base = refl

some_digits : (base n : ℕ) → n ≢ 0 → numeral_digits base n ≡ digits_of base n
some_digits base n some = ap (λ none. cond none (0 ∷ []) (digits_of base n)) (ne_eqb n 0 some)

-- the last digit of a numeral
last_digit : (base n : ℕ) → 2 ≤ base → numeral_digits base n ≡ digits_of base (n / base) ++ (n % base ∷ [])
last_digit base n low = ⊎_elim
    (λ none.
    let high : n / base ≡ 0 = div-eq_of_lt (omega arith) in
    let end : n % base ≡ 0 = mod-eq_of_lt (omega arith) ∙ none in
    ap (numeral_digits base) none ∙ sym (λ i. digits_of base (high i) ++ (end i ∷ [])))
    (λ some. some_digits base n some ∙ digits_of_step base n low (omega arith))
    (cases_eq n 0)

-- it stands at the end of the buffer
pub last_written : (base : ℕ) (capital : Bool) (n : ℕ) (buffer : List ℕ) → 2 ≤ base → length buffer ≡ 22 →
    map (digit_glyph capital) (digits_of base (n / base)) ++ drop 21 (set buffer 21 (digit_glyph capital (n % base))) ≡ numeral base capital n
unfolding numeral
last_written base capital n buffer low len =
    ap (λ end. map (digit_glyph capital) (digits_of base (n / base)) ++ end) (drop-set buffer 21 (digit_glyph capital (n % base)) (omega arith) ∙ ap (λ rest. digit_glyph capital (n % base) ∷ rest) (drop_all 22 buffer (omega arith)))
    ∙ sym (map-append (digit_glyph capital) (digits_of base (n / base)) (n % base ∷ []))
    ∙ ap (map (digit_glyph capital)) (sym (last_digit base n low))

-- one more digit before those that are written
pub more_written : (base : ℕ) (capital : Bool) (left start : ℕ) (buffer : List ℕ) → 2 ≤ base → 0 < left → 1 ≤ start → start ≤ length buffer →
    map (digit_glyph capital) (digits_of base (left / base)) ++ drop (start - 1) (set buffer (start - 1) (digit_glyph capital (left % base)))
    ≡ map (digit_glyph capital) (digits_of base left) ++ drop start buffer
more_written base capital left start buffer low some room within =
    let glyph = digit_glyph capital in
    let at : start - 1 + 1 ≡ start = omega arith in
    ap (λ end. map glyph (digits_of base (left / base)) ++ end)
    (drop-set buffer (start - 1) (glyph (left % base)) (omega arith) ∙ ap (λ n. glyph (left % base) ∷ drop n buffer) at)
    ∙ sym (append_assoc (map glyph (digits_of base (left / base))) (glyph (left % base) ∷ []) (drop start buffer))
    ∙ ap (λ front. front ++ drop start buffer)
    (sym (map-append glyph (digits_of base (left / base)) (left % base ∷ [])) ∙ ap (map glyph) (sym (digits_of_step base left low some)))

-- a number of 64 bits has at most 22 digits in these bases
pub room_at_first : (base n : ℕ) → (base ≡ 8) ⊎ (base ≡ 16) → n < 2 ^ 64 → length (digits_of base (n / base)) ≤ 21
room_at_first base n is small = ⊎_elim
    (λ eight. subst (λ b. length (digits_of b (n / b)) ≤ 21) (sym eight) (length-digits_of-le 8 21 (n / 8) (omega arith) (omega arith)))
    (λ sixteen. subst (λ b. length (digits_of b (n / b)) ≤ 21) (sym sixteen) (length-digits_of-le 16 21 (n / 16) (omega arith) (omega arith)))
    is

pub base_is_some : (base : ℕ) → (base ≡ 8) ⊎ (base ≡ 16) → 2 ≤ base
base_is_some base is = ⊎_elim (λ e. omega arith) (λ e. omega arith) is

-- decimal digits are not letters
glyph_of_digit : (capital : Bool) (d : ℕ) → d < 10 → digit_glyph capital d ≡ 48 + d
glyph_of_digit capital d small = ap (λ low. cond low (48 + d) (cond capital (55 + d) (87 + d))) (lt-ltb d 10 small)

glyphs_of_digits : (capital : Bool) (ds : List ℕ) → AllBelowBase 10 ds → map (digit_glyph capital) ds ≡ map (λ d. 48 + d) ds
glyphs_of_digits capital [] all = refl
glyphs_of_digits capital (d ∷ ds) all =
    let here = glyph_of_digit capital d all.0 in let later = glyphs_of_digits capital ds all.1 in λ i. here i ∷ later i

-- the numeral in base 10
pub decimal_is : (capital : Bool) (n : ℕ) → n < 2 ^ 64 → decimal n ≡ numeral 10 capital n
unfolding numeral
decimal_is capital n small = ⊎_elim
    (λ none. ap decimal none ∙ decimal_digit 0 (omega arith) ∙ ap (λ m. map (digit_glyph capital) (numeral_digits 10 m)) (sym none))
    (λ some. decimal-digits_of n (omega arith) small ∙ sym (glyphs_of_digits capital (digits_of 10 n) (all_below_base_digits_of 10 n (omega arith)))
    ∙ ap (map (digit_glyph capital)) (sym (some_digits 10 n some)))
    (cases_eq n 0)

-- what the digits of a numeral are
zero_stands : (base : ℕ) → 0 * base + 0 ≡ 0
zero_stands base = omega arith

zero_below : (base : ℕ) → 2 ≤ base → AllBelowBase base (0 ∷ [])
zero_below base low = (omega arith, tt)

pub numeral_value : (base n : ℕ) → 2 ≤ base → number_from_digits base (numeral_digits base n) ≡ n
numeral_value base n low = ⊎_elim
    (λ none. ap (λ m. number_from_digits base (numeral_digits base m)) none ∙ zero_stands base ∙ sym none)
    (λ some. ap (number_from_digits base) (some_digits base n some) ∙ number_digits_of base n low)
    (cases_eq n 0)

pub numeral_below_base : (base n : ℕ) → 2 ≤ base → AllBelowBase base (numeral_digits base n)
numeral_below_base base n low = ⊎_elim
    (λ none. let P : ℕ → Type 0 = λ m. AllBelowBase base (numeral_digits base m) in subst P (sym none) (zero_below base low))
    (λ some. subst (AllBelowBase base) (sym (some_digits base n some)) (all_below_base_digits_of base n low))
    (cases_eq n 0)

pub numeral_first : (base n : ℕ) → 2 ≤ base → 0 < n → 0 < get_or (numeral_digits base n) 0 0
numeral_first base n low some =
    subst (λ ds. 0 < get_or ds 0 0) (sym (some_digits base n (λ none. omega arith))) (first_digits_of base n low some)
