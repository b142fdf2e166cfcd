use Rattle.std.proofs.Common.{◌≡◌, ◌≤◌, ◌++◌, map, drop, length}
use Rattle.std.specs.Fmt.{digit_glyph}
use Rattle.std.specs.Int.Digits.{digits_of}
use Rattle.c_print.specs.Print.{numeral}
use Rattle.c_print.proofs.numeral.write_numeral.Given as goal

-- the digits of what is left stand before those that are written
abbrev pub invariant-loop-left : goal.invariant-loop-left
invariant-loop-left l = record {
  len : length l.buffer ≡ 22;
  within : l.start ≤ 21;
  room : length (digits_of l.base l.left) ≤ l.start;
  written : map (digit_glyph l.capital) (digits_of l.base l.left) ++ drop l.start l.buffer ≡ numeral l.base l.capital l.number;
}

abbrev pub decreases-loop-left : goal.decreases-loop-left
decreases-loop-left l = l.left
