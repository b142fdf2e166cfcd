use Rattle.std.proofs.Common.{arith}
use Rattle.heap_blocks.proofs.Rows.{place_in_row}
use Rattle.heap_blocks.proofs.laws.places_in_rows_are_sums.Goals as goal

pub returns : goal.returns
returns c = λ held k b row at. let place = place_in_row 0 held k b row at in omega arith
