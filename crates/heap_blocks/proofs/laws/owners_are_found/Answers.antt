use Rattle.heap_blocks.proofs.Owning.{held_owns}
use Rattle.heap_blocks.proofs.laws.owners_are_found.Goals as goal

pub returns : goal.returns
returns c = held_owns
