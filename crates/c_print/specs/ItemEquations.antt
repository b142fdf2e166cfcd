-- How items are read: their fronts, their widths and their conversions. Proved from `Item` and `Length`.
use Rattle.std.proofs.Common.{◌≡◌, ◌≢◌, ◌≤◌, ◌<◌, ◌+◌, ◌*◌, ◌-◌, ◌^◌, ℕ, Bool, true, false, cond, List, [], ◌∷◌, ◌++◌, ◌&&◌, nat_eq, nat_le, get_or, take, drop, length, Some, None, refl, sym, ap, ◌∙◌, subst, ⊎_elim, codes, lit≤, zero-lt-suc, lt_of_le_of_lt, not-le_of_lt, one-add, add-sub_cancel, le_trans}
use Rattle.std.specs.List.{list_all, prefix_len}
use Rattle.std.specs.Char.{is_ascii_digit, digit_value}
use Rattle.std.specs.Fmt.{decimal}
use Rattle.std.specs.Str.Parse.{digits_value}
use Rattle.std.proofs.lemmas.Bool.{and_from, and_parts, cases_eq, eqb-true, false≢true, le-leb, leb-true, ne_eqb, or_cases}
use Rattle.std.proofs.lemmas.Fmt.{decimal-digits_value, decimal_digit, digits_decimal}
use Rattle.std.proofs.lemmas.Int.Digits.{digits_value_more}
use Rattle.std.proofs.lemmas.Option.{none-some}
use Rattle.std.proofs.lemmas.Str.{digit_value_digit}
use Rattle.std.proofs.lemmas.Str.Parse.{IsDigitsTest, IsNumeralModel, digit_at, numerals_by_value}
use Rattle.hs_base.specs.declared.ends.IntKind.{IntKind}
use Rattle.c_print.specs.declared.length.Length.{Length}
use Rattle.c_print.specs.declared.length.Length.TheVariants.{Absent, Hh, H, L, Ll, Z}
use Rattle.c_print.specs.Length.{length_bytes, signed_kind, unsigned_kind, byte_kind, is_one_of, kind_of}
use Rattle.c_print.specs.Item.{StartsOutside, is_flag, width_bytes, ReadsConversion, ReadsItem}

-- Fronts

-- the longest front that passes a test passes it, and what follows does not begin with such a byte
module _ (test : ℕ → Bool) where
  front_passes_more : (b : ℕ) (bytes : List ℕ) (passes : Bool) → test b ≡ passes →
      list_all test (take (prefix_len test bytes) bytes) ≡ true →
      list_all test (take (cond passes (1 + prefix_len test bytes) 0) (b ∷ bytes)) ≡ true
  front_passes_more b bytes true is rest =
      ap (λ n. list_all test (take n (b ∷ bytes))) (one-add (prefix_len test bytes))
      ∙ ap (λ here. here && list_all test (take (prefix_len test bytes) bytes)) is ∙ rest
  front_passes_more b bytes false is rest = refl

  pub front_passes : (bytes : List ℕ) → list_all test (take (prefix_len test bytes) bytes) ≡ true
  front_passes [] = refl
  front_passes (b ∷ bytes) = front_passes_more b bytes (test b) refl (front_passes bytes)

  outside_more : (b : ℕ) (bytes : List ℕ) (passes : Bool) → test b ≡ passes →
      StartsOutside test (drop (prefix_len test bytes) bytes) →
      StartsOutside test (drop (cond passes (1 + prefix_len test bytes) 0) (b ∷ bytes))
  outside_more b bytes true is rest =
      subst (λ n. StartsOutside test (drop n (b ∷ bytes))) (sym (one-add (prefix_len test bytes))) rest
  outside_more b bytes false is rest = is

  pub rest_starts_outside : (bytes : List ℕ) → StartsOutside test (drop (prefix_len test bytes) bytes)
  rest_starts_outside [] = tt
  rest_starts_outside (b ∷ bytes) = outside_more b bytes (test b) refl (rest_starts_outside bytes)

-- Widths

-- decimal digits as std reads them
digits_test : IsDigitsTest (λ ds. list_all is_ascii_digit ds ≡ true)
digits_test = record {
  empty = refl;
  parts = λ c cs all.
      let both = and_parts (is_ascii_digit c) (list_all is_ascii_digit cs) all in
      let range = and_parts (nat_le 48 c) (nat_le c 57) both.0 in
      ((leb-true 48 c range.0, leb-true c 57 range.1), both.1);
  more = λ c cs range rest.
      and_from (is_ascii_digit c) (list_all is_ascii_digit cs)
      (and_from (nat_le 48 c) (nat_le c 57) (le-leb 48 c range.0) (le-leb c 57 range.1)) rest;
}

pub all_digits : IsNumeralModel (λ ds. list_all is_ascii_digit ds ≡ true) (digits_value 10)
all_digits = numerals_by_value _ digits_test

small_width : (width : ℕ) → width ≤ 4095 → width < 2 ^ 64
small_width width small = lt_of_le_of_lt small (lit≤ tt)

pub width_bytes_some : (width : ℕ) → width ≢ 0 → width_bytes width ≡ decimal width
width_bytes_some width some = ap (λ none. cond none [] (decimal width)) (ne_eqb width 0 some)

-- a numeral without a leading zero is the one of its value
pub width_bytes_value : (ds : List ℕ) → list_all is_ascii_digit ds ≡ true → get_or ds 0 0 ≢ 48 →
    digits_value 10 ds ≤ 4095 → ds ≡ width_bytes (digits_value 10 ds)
width_bytes_value [] digits front small = refl
width_bytes_value (d ∷ ds) digits front small =
    let value = digits_value 10 (d ∷ ds) in
    let again : decimal value ≡ d ∷ ds =
    decimal-digits_value all_digits (d ∷ ds) digits (zero-lt-suc (length ds)) (λ zero. absurd (front zero)) (small_width value small) in
    let some : value ≢ 0 = λ none. front (ap (λ bytes. get_or bytes 0 0) (sym again ∙ ap decimal none ∙ decimal_digit 0 (zero-lt-suc 9))) in
    sym again ∙ sym (width_bytes_some value some)

-- one more digit
pub value_more : (ds : List ℕ) (i : ℕ) → list_all is_ascii_digit ds ≡ true → i < length ds →
    digits_value 10 (take i ds) * 10 + (get_or ds i 0 - 48) ≡ digits_value 10 (take (i + 1) ds)
value_more ds i digits below =
    let digit = get_or ds i 0 in
    let value = digit_value_digit digit (digit_at ds i (all_digits.to ds digits) below) in
    ap (λ n. digits_value 10 (take i ds) * 10 + n) (ap (λ n. n - 48) (sym value) ∙ add-sub_cancel (digit_value digit) 48)
    ∙ sym (digits_value_more 10 ds i below)

pub width_digits : (width : ℕ) → width ≤ 4095 → list_all is_ascii_digit (width_bytes width) ≡ true
width_digits width small = ⊎_elim
    (λ none. ap (λ w. list_all is_ascii_digit (width_bytes w)) none)
    (λ some. ap (list_all is_ascii_digit) (width_bytes_some width some) ∙ digits_decimal all_digits width (small_width width small))
    (cases_eq width 0)

-- Conversions

one_of_bound : (low : ℕ) (bytes : List ℕ) (b : ℕ) → list_all (nat_le low) bytes ≡ true → is_one_of bytes b ≡ true → low ≤ b
one_of_bound low [] b high found = absurd (false≢true found)
one_of_bound low (c ∷ bytes) b high found =
    let parts = and_parts (nat_le low c) (list_all (nat_le low) bytes) high in
    ⊎_elim
    (λ here. subst (λ n. low ≤ n) (eqb-true c b here) (leb-true low c parts.0))
    (λ later. one_of_bound low bytes b parts.1 later)
    (or_cases (nat_eq c b) (is_one_of bytes b) found)

-- each conversion is a letter from `X` on
kind_bound : (length : Length) (conv : ℕ) (kind : IntKind) (signed unsigned text : Bool) →
    is_one_of (codes "di") conv ≡ signed → is_one_of (codes "ouxX") conv ≡ unsigned → is_one_of (codes "cs") conv ≡ text →
    cond signed (signed_kind length) (cond unsigned (unsigned_kind length) (cond text (byte_kind length) None)) ≡ Some kind → 88 ≤ conv
kind_bound length conv kind true unsigned text s u t is = one_of_bound 88 (codes "di") conv refl s
kind_bound length conv kind false true text s u t is = one_of_bound 88 (codes "ouxX") conv refl u
kind_bound length conv kind false false true s u t is = one_of_bound 88 (codes "cs") conv refl t
kind_bound length conv kind false false false s u t is = absurd (none-some kind is)

pub conv_is_letter : (length : Length) (conv : ℕ) (kind : IntKind) → kind_of length conv ≡ Some kind → 88 ≤ conv
conv_is_letter length conv kind is = kind_bound length conv kind _ _ _ refl refl refl is

-- no flag and no digit stands before a conversion
pub starts_outside : (test : ℕ → Bool) → (test 104 ≡ false) → (test 108 ≡ false) → (test 122 ≡ false) →
    ((b : ℕ) → 88 ≤ b → test b ≡ false) → (bytes : List ℕ) (conv : ℕ) (kind : IntKind) (rest : List ℕ) →
    ReadsConversion bytes conv kind rest → StartsOutside test bytes
starts_outside test h l z high bytes conv kind rest reads =
    subst (StartsOutside test) (sym reads.written) (by_length reads.length (high conv (conv_is_letter reads.length conv kind reads.kind_is))) where
      by_length : (length : Length) → test conv ≡ false → StartsOutside test (length_bytes length ++ conv ∷ rest)
      by_length Absent is = is
      by_length Hh is = h
      by_length H is = h
      by_length L is = l
      by_length Ll is = l
      by_length Z is = z

-- Items

-- an item does not begin with a percent sign
abbrev is_percent : ℕ → Bool
is_percent b = nat_eq b 37

percent_below : (b : ℕ) → 38 ≤ b → is_percent b ≡ false
percent_below b high = ne_eqb b 37 (λ same. not-le_of_lt (lit≤ tt) (subst (λ n. 38 ≤ n) same high))

flag_is_no_percent : (b : ℕ) → is_flag b ≡ true → is_percent b ≡ false
flag_is_no_percent b flag = percent_below b (one_of_bound 38 (codes "-0") b refl flag)

digit_is_no_percent : (b : ℕ) → is_ascii_digit b ≡ true → is_percent b ≡ false
digit_is_no_percent b digit = percent_below b (le_trans (lit≤ tt) (leb-true 48 b (and_parts (nat_le 48 b) (nat_le b 57) digit).0))

letter_is_no_percent : (b : ℕ) → 88 ≤ b → is_percent b ≡ false
letter_is_no_percent b high = percent_below b (le_trans (lit≤ tt) high)

starts_in : (test : ℕ → Bool) → ((b : ℕ) → test b ≡ true → is_percent b ≡ false) → (front behind : List ℕ) →
    list_all test front ≡ true → StartsOutside is_percent behind → StartsOutside is_percent (front ++ behind)
starts_in test outside_percent [] behind all outside = outside
starts_in test outside_percent (b ∷ front) behind all outside = outside_percent b (and_parts (test b) (list_all test front) all).0

pub item_is_no_percent : (bytes : List ℕ) (left zeros : Bool) (width conv : ℕ) (kind : IntKind) (rest : List ℕ) →
    ReadsItem bytes left zeros width conv kind rest → StartsOutside is_percent bytes
item_is_no_percent bytes left zeros width conv kind rest item =
    subst (StartsOutside is_percent) (sym item.written) (starts_in is_flag flag_is_no_percent item.flags (width_bytes width ++ item.behind) item.only_flags
    (starts_in is_ascii_digit digit_is_no_percent (width_bytes width) item.behind (width_digits width item.width_fits)
    (starts_outside is_percent refl refl refl letter_is_no_percent item.behind conv kind rest item.conversion)))
