use Rattle.heap_blocks.proofs.Rows.{placed_in_row}
use Rattle.heap_blocks.proofs.laws.placed_blocks_stand_in_a_row.Goals as goal

pub returns : goal.returns
returns c = placed_in_row
