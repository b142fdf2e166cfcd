use Rattle.std.proofs.Common.{◌≡◌, ◌∙◌, ap, sym, true, drop, length, nat_le}
use Rattle.std.specs.List.{list_all, take_while}
use Rattle.std.specs.Char.{is_ascii_digit}
use Rattle.std.specs.Str.Parse.{digits_value}
use Rattle.c_print.specs.ItemEquations.{front_passes}
use Rattle.c_print.specs.Item.{is_flag}
use Rattle.c_print.specs.Length.{is_one_of}
use Rattle.c_decls.specs.Callees.{digits_at}
use Rattle.c_typing.proofs.FormatLemmas.{item_front_is}
use Rattle.c_typing.proofs.formats.item_front.Goals as goal

pub is_width-requires : goal.is_width-requires
is_width-requires c = ap (list_all is_ascii_digit) c.split_digits.ensures.digits ∙ front_passes is_ascii_digit c.split_flags.result.1.now

pub returns-then-is_width : goal.returns-then-is_width
returns-then-is_width c =
    let rest = c.split_digits.ensures.rest
    ∙ ap (λ r. drop (length (take_while is_ascii_digit r)) r) c.split_flags.ensures.rest in
    let filled = c.contains.ensures.value ∙ ap (λ flags. is_one_of flags 48) c.split_flags.ensures.flags in
    let digits = c.split_digits.ensures.digits ∙ ap (take_while is_ascii_digit) c.split_flags.ensures.rest in
    let small = ap (λ ds. nat_le (digits_value 10 ds) 4095) (sym digits) ∙ sym c.is_width.ensures ∙ c.if-is_width.true in
    c.conversion_front.ensures
    ∙ item_front_is c.args.bytes.now c.split_digits.result.1.now c.contains.result rest filled small
