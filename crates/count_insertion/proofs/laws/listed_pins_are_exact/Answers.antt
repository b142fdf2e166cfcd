use Rattle.count_insertion.proofs.Exactness.{listed_exact, listed_ascending, registers_are}
use Rattle.count_insertion.proofs.laws.listed_pins_are_exact.Goals as goal

pub returns : goal.returns
returns c = record {
  exact = listed_exact;
  ascending = listed_ascending;
  counting = λ func point stm at. registers_are func point stm at;
}
