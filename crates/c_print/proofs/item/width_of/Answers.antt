use Rattle.std.proofs.Common.{arith, sym, ap, ◌∙◌, ◌≡◌, ◌+◌, take_all}
use Rattle.std.specs.Str.Parse.{digits_value}
use Rattle.std.proofs.lemmas.Str.Parse.{digits_value-take-le}
use Rattle.c_print.specs.Item.{width_bytes}
use Rattle.c_print.specs.ItemEquations.{width_bytes_value, value_more}
use Rattle.c_print.proofs.Widths.{value_width_bytes}
use Rattle.c_print.proofs.item.width_of.Goals as goal

pub returns-then-width-gt-WIDEST : goal.returns-then-width-gt-WIDEST
returns-then-width-gt-WIDEST c width small is =
    let digits = c.args.digits.now in
    let place = c.loop-digit.digit-index in
    let more = value_more digits place c.requires.digits c.loop-digit-test.true in
    let part = digits_value-take-le 10 digits (place + 1) (omega arith) in
    let whole = ap (digits_value 10) is ∙ value_width_bytes width small in
    omega arith

pub loop-digit-preserved : goal.loop-digit-preserved
loop-digit-preserved c = record {
  value = let more = value_more c.args.digits.now c.loop-digit.digit-index c.requires.digits c.loop-digit-test.true in omega arith;
  fits = c.if-width-gt-WIDEST.false;
}

pub returns : goal.returns
returns c =
    let digits = c.args.digits.now in
    let value : c.loop-digit.width ≡ digits_value 10 digits =
    c.loop-digit.invariant.value ∙ ap (digits_value 10) (take_all c.loop-digit.digit-index digits c.loop-digit-test.false) in
    let fits = c.loop-digit.invariant.fits in (
      fits,
      width_bytes_value digits c.requires.digits c.requires.no_leading_zero (omega arith) ∙ ap width_bytes (sym value),
    )
