use Rattle.heap_blocks.proofs.Rows.{last_given_back, row_front}
use Rattle.heap_blocks.proofs.laws.rows_shrink.Goals as goal

pub returns : goal.returns
returns c = record { last = last_given_back; row = row_front }
