use Rattle.heap_blocks.proofs.Rows.{row_grows, row_grows_at}
use Rattle.heap_blocks.proofs.laws.rows_grow.Goals as goal

pub returns : goal.returns
returns c = record { place = row_grows_at; row = row_grows }
