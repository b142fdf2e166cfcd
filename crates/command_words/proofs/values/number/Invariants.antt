use Rattle.std.proofs.Common.{◌≡◌, ◌<◌, ◌^◌, take, true}
use Rattle.std.specs.List.{list_all}
use Rattle.std.specs.Char.{is_ascii_digit}
use Rattle.command_words.specs.Numbers.{digits_value}
use Rattle.command_words.proofs.values.number.Given as goal

abbrev pub invariant-loop-digit : goal.invariant-loop-digit
invariant-loop-digit l = record {
  value : l.value ≡ digits_value (take l.digit-index l.digits);
  small : l.value < 10 ^ l.digit-index;
  all : list_all is_ascii_digit (take l.digit-index l.digits) ≡ true;
}
