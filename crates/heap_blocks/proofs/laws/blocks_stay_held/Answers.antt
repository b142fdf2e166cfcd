use Rattle.heap_blocks.proofs.Objects.{held_without}
use Rattle.heap_blocks.proofs.laws.blocks_stay_held.Goals as goal

pub returns : goal.returns
returns c = held_without
