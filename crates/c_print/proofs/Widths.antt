-- The digits of a width.
use Rattle.std.proofs.Common.{◌≡◌, ◌≤◌, ◌-◌, ℕ, [], refl, sym, ap, ◌∙◌, arith}
use Rattle.std.specs.Str.Parse.{digits_value}
use Rattle.std.proofs.lemmas.Bool.{cases_eq}
use Rattle.std.proofs.lemmas.Fmt.{digits_value-decimal}
use Rattle.std.proofs.Common.{⊎_elim}
use Rattle.c_print.specs.Item.{width_bytes}
use Rattle.c_print.specs.ItemEquations.{all_digits, width_bytes_some}

pub width_bytes_none : width_bytes 0 ≡ []
width_bytes_none = refl

-- and the value of a width's bytes is the width
pub value_width_bytes : (width : ℕ) → width ≤ 4095 → digits_value 10 (width_bytes width) ≡ width
value_width_bytes width small = ⊎_elim
    (λ none. ap (λ w. digits_value 10 (width_bytes w)) none ∙ sym none)
    (λ some. ap (digits_value 10) (width_bytes_some width some) ∙ digits_value-decimal all_digits width (omega arith))
    (cases_eq width 0)
