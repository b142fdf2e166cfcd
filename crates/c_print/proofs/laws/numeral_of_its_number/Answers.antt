use Rattle.c_print.proofs.Numerals as numerals
use Rattle.c_print.proofs.laws.numeral_of_its_number.Goals as goal

pub returns-clause-value : goal.returns-clause-value
returns-clause-value c = numerals.numeral_value

pub returns-clause-digits : goal.returns-clause-digits
returns-clause-digits c = numerals.numeral_below_base

pub returns-clause-first : goal.returns-clause-first
returns-clause-first c = numerals.numeral_first
