-- An item has one reading.
use Rattle.std.proofs.Common.{◌≡◌, ◌≢◌, ◌≤◌, ◌<◌, ℕ, Bool, true, false, List, [], ◌∷◌, ◌++◌, get_or, length, length-append, refl, sym, ap, ◌∙◌, subst, ⊎_elim, arith}
use Rattle.std.specs.List.{list_all}
use Rattle.std.specs.Char.{is_ascii_digit}
use Rattle.std.specs.Str.Parse.{digits_value}
use Rattle.std.proofs.lemmas.Bool.{and_parts, cases_eq}
use Rattle.std.proofs.lemmas.Fmt.{first_decimal}
use Rattle.std.proofs.lemmas.Bool.Decides.{nat_tests}
use Rattle.hs_base.specs.declared.ends.IntKind.{IntKind}
use Rattle.c_print.specs.Item.{is_flag, StartsOutside, width_bytes, ReadsConversion, ReadsItem}
use Rattle.c_print.proofs.Widths.{value_width_bytes}
use Rattle.c_print.proofs.Fronts.{one_front}
use Rattle.c_print.specs.Length.{length_bytes, is_one_of}
use Rattle.c_print.specs.ItemEquations.{starts_outside, width_bytes_some, width_digits}
use Rattle.c_print.proofs.Convs.{one_conversion}

width_front : (width : ℕ) → width ≤ 4095 → get_or (width_bytes width) 0 0 ≢ 48
width_front width small = ⊎_elim
    (λ none zero. absurd (omega (arith, sym zero ∙ ap (λ w. get_or (width_bytes w) 0 0) none)))
    (λ some zero. omega (arith, first_decimal width, sym (ap (λ bytes. get_or bytes 0 0) (width_bytes_some width some)) ∙ zero))
    (cases_eq width 0)

digit_is_no_flag : (b : ℕ) → is_ascii_digit b ≡ true → b ≢ 48 → is_flag b ≡ false
digit_is_no_flag b digit front = grind (arith, nat_tests)

-- no flag stands before a width
flags_end : (digits behind : List ℕ) → list_all is_ascii_digit digits ≡ true → get_or digits 0 0 ≢ 48 →
    StartsOutside is_flag behind → StartsOutside is_flag (digits ++ behind)
flags_end [] behind all front outside = outside
flags_end (d ∷ digits) behind all front outside =
    digit_is_no_flag d (and_parts (is_ascii_digit d) (list_all is_ascii_digit digits) all).0 front

flag_low : (b : ℕ) → 88 ≤ b → is_flag b ≡ false
flag_low b high = grind (arith, nat_tests)

digit_low : (b : ℕ) → 88 ≤ b → is_ascii_digit b ≡ false
digit_low b high = grind (arith, nat_tests)

-- the parts of an item
pub record HasParts (flags digits behind : List ℕ) (width : ℕ) (item-flags item-behind : List ℕ) : Type 0 where
  pub flags_are : item-flags ≡ flags
  pub digits_are : digits ≡ width_bytes width
  pub behind_is : item-behind ≡ behind

pub item_parts : (bytes flags after digits behind : List ℕ) (left zeros : Bool) (width conv : ℕ) (kind : IntKind) (rest : List ℕ) →
    bytes ≡ flags ++ after → after ≡ digits ++ behind →
    list_all is_flag flags ≡ true → StartsOutside is_flag after →
    list_all is_ascii_digit digits ≡ true → StartsOutside is_ascii_digit behind →
    (item : ReadsItem bytes left zeros width conv kind rest) → HasParts flags digits behind width item.flags item.behind
item_parts bytes flags after digits behind left zeros width conv kind rest whole between only_flags flags_stop only_digits digits_stop item =
    let digits_end = starts_outside is_ascii_digit refl refl refl digit_low item.behind conv kind rest item.conversion in
    let no_flags = starts_outside is_flag refl refl refl flag_low item.behind conv kind rest item.conversion in
    let outer = one_front is_flag item.flags flags (width_bytes width ++ item.behind) after (sym item.written ∙ whole)
    item.only_flags only_flags (flags_end (width_bytes width) item.behind (width_digits width item.width_fits) (width_front width item.width_fits) no_flags) flags_stop in
    let inner = one_front is_ascii_digit (width_bytes width) digits item.behind behind (outer.1 ∙ between)
    (width_digits width item.width_fits) only_digits digits_end digits_stop in
    record { flags_are = outer.0; digits_are = sym inner.0; behind_is = inner.1 }

-- where the flags and the width of an item end
pub item_ends : (bytes : List ℕ) (left zeros : Bool) (width conv : ℕ) (kind : IntKind) (rest : List ℕ) →
    (item : ReadsItem bytes left zeros width conv kind rest) →
    StartsOutside is_flag (width_bytes width ++ item.behind) × StartsOutside is_ascii_digit item.behind
item_ends bytes left zeros width conv kind rest item = (
  flags_end (width_bytes width) item.behind (width_digits width item.width_fits) (width_front width item.width_fits)
      (starts_outside is_flag refl refl refl flag_low item.behind conv kind rest item.conversion),
  starts_outside is_ascii_digit refl refl refl digit_low item.behind conv kind rest item.conversion,
)

-- what two readings of an item agree in
pub record SameItem (left zeros : Bool) (width conv : ℕ) (kind : IntKind) (rest : List ℕ)
    (left' zeros' : Bool) (width' conv' : ℕ) (kind' : IntKind) (rest' : List ℕ) : Type 0 where
  pub same_left : left ≡ left'
  pub same_zeros : zeros ≡ zeros'
  pub same_width : width ≡ width'
  pub same_conv : conv ≡ conv'
  pub same_kind : kind ≡ kind'
  pub same_rest : rest ≡ rest'

pub one_item : (bytes : List ℕ) (left zeros : Bool) (width conv : ℕ) (kind : IntKind) (rest : List ℕ)
    (left' zeros' : Bool) (width' conv' : ℕ) (kind' : IntKind) (rest' : List ℕ) →
    ReadsItem bytes left zeros width conv kind rest → ReadsItem bytes left' zeros' width' conv' kind' rest' →
    SameItem left zeros width conv kind rest left' zeros' width' conv' kind' rest'
one_item bytes left zeros width conv kind rest left' zeros' width' conv' kind' rest' one other =
    let ends = item_ends bytes left' zeros' width' conv' kind' rest' other in
    let parts = item_parts bytes other.flags (width_bytes width' ++ other.behind) (width_bytes width') other.behind
    left zeros width conv kind rest other.written refl other.only_flags ends.0 (width_digits width' other.width_fits) ends.1 one in
    let behind = one_conversion other.behind conv conv' kind kind' rest rest'
    (subst (λ l. ReadsConversion l conv kind rest) parts.behind_is one.conversion) other.conversion in
    record {
      same_left = one.left_is ∙ ap (λ flags. is_one_of flags 45) parts.flags_are ∙ sym other.left_is;
      same_zeros = one.zeros_is ∙ ap (λ flags. is_one_of flags 48) parts.flags_are ∙ sym other.zeros_is;
      same_width = sym (value_width_bytes width one.width_fits) ∙ ap (digits_value 10) (sym parts.digits_are) ∙ value_width_bytes width' other.width_fits;
      same_conv = behind.0;
      same_kind = behind.1;
      same_rest = behind.2;
    }

pub item_is_longer : (bytes : List ℕ) (left zeros : Bool) (width conv : ℕ) (kind : IntKind) (rest : List ℕ) →
    ReadsItem bytes left zeros width conv kind rest → length rest < length bytes
item_is_longer bytes left zeros width conv kind rest item =
    let l = item.conversion.length in
    omega (
      arith,
      ap length item.written,
      ap length item.conversion.written,
      length-append item.flags (width_bytes width ++ item.behind),
      length-append (width_bytes width) item.behind,
      length-append (length_bytes l) (conv ∷ rest),
    )
