use Rattle.std.proofs.Common.{refl, sym, ap, ◌∙◌, subst, ◌≡◌, ◌&&◌, true, codes}
use Rattle.std.proofs.lemmas.Bool.{both_ways}
use Rattle.c_print.specs.Length.{is_one_of}
use Rattle.c_print.specs.Item.{ReadsConversion}
use Rattle.c_print.proofs.Parts.{item_parts}
use Rattle.c_print.proofs.Convs.{one_conversion}
use Rattle.c_print.proofs.item.read_item.Goals as goal

pub returns-in_err-width-clause-none : goal.returns-in_err-width-clause-none
returns-in_err-width-clause-none c is left zeros width conv kind rest item =
    let flags = c.split_flags.ensures in
    let digits = c.split_digits.ensures in
    let parts = item_parts _ _ _ _ _ left zeros width conv kind rest flags.whole digits.whole flags.front flags.longest digits.front digits.longest item in
    c.in_err-width.ensures width item.width_fits parts.digits_are

pub returns-in_err-conv-clause-none : goal.returns-in_err-conv-clause-none
returns-in_err-conv-clause-none c is left zeros width conv kind rest item =
    let flags = c.split_flags.ensures in
    let digits = c.split_digits.ensures in
    let parts = item_parts _ _ _ _ _ left zeros width conv kind rest flags.whole digits.whole flags.front flags.longest digits.front digits.longest item in
    c.in_err-conv.ensures.none refl conv kind rest (subst (λ bytes. ReadsConversion bytes conv kind rest) parts.behind_is item.conversion)

pub returns-then-is_text-clause-none : goal.returns-then-is_text-clause-none
returns-then-is_text-clause-none c is left zeros width conv kind rest item =
    let flags = c.split_flags.ensures in
    let digits = c.split_digits.ensures in
    let parts = item_parts _ _ _ _ _ left zeros width conv kind rest flags.whole digits.whole flags.front flags.longest digits.front digits.longest item in
    let same = one_conversion _ _ conv _ kind _ rest c.in_ok-conv.ensures.some
    (subst (λ bytes. ReadsConversion bytes conv kind rest) parts.behind_is item.conversion) in
    let is_zeros : zeros ≡ true = item.zeros_is ∙ ap (λ bytes. is_one_of bytes 48) parts.flags_are ∙ sym c.contains-zeros.ensures.value ∙ c.if-zeros.true in
    let is_text : is_one_of (codes "cs") conv ≡ true = ap (is_one_of (codes "cs")) (sym same.0) ∙ sym c.is_text.ensures ∙ c.if-is_text.true in
    both_ways (zeros && is_one_of (codes "cs") conv) item.no_zeros_in_text (ap (λ z. z && is_one_of (codes "cs") conv) is_zeros ∙ is_text)
