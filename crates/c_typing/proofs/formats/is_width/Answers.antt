use Rattle.std.proofs.Common.{◌≡◌, ◌<◌, ◌≤◌, ◌+◌, false, true, Bool, nat_le, sym, ap, ◌∙◌, take_all, arith}
use Rattle.std.specs.Str.Parse.{digits_value}
use Rattle.std.proofs.lemmas.Str.Parse.{digits_value-take-le}
use Rattle.c_print.specs.ItemEquations.{value_more}
use Rattle.c_typing.proofs.formats.is_width.Goals as goal

pub returns-then-width-gt-WIDEST : goal.returns-then-width-gt-WIDEST
returns-then-width-gt-WIDEST c =
    let digits = c.args.digits.now in
    let place = c.loop-digit.digit-index in
    let more = value_more digits place c.requires c.loop-digit-test.true in
    let part = digits_value-take-le 10 digits (place + 1) (omega arith) in
    let over : 4095 < digits_value 10 digits = omega arith in
    grind (arith, over)

pub loop-digit-preserved : goal.loop-digit-preserved
loop-digit-preserved c = record {
  value = let more = value_more c.args.digits.now c.loop-digit.digit-index c.requires c.loop-digit-test.true in omega arith;
  fits = c.if-width-gt-WIDEST.false;
}

pub returns : goal.returns
returns c =
    let digits = c.args.digits.now in
    let value : c.loop-digit.width ≡ digits_value 10 digits =
    c.loop-digit.invariant.value ∙ ap (digits_value 10) (take_all c.loop-digit.digit-index digits c.loop-digit-test.false) in
    let fits : digits_value 10 digits ≤ 4095 = omega (arith, c.loop-digit.invariant.fits) in
    grind (arith, fits)
