use Rattle.std.proofs.Common.{◌≡◌, ◌≤◌, take}
use Rattle.std.specs.Str.Parse.{digits_value}
use Rattle.c_typing.proofs.formats.is_width.Given as goal

-- the digits so far write the width, and it is not too great
abbrev pub invariant-loop-digit : goal.invariant-loop-digit
invariant-loop-digit l = record {
  value : l.width ≡ digits_value 10 (take l.digit-index l.digits);
  fits : l.width ≤ 4095;
}
