use Rattle.heap_blocks.proofs.Pieces.{changes_widened}
use Rattle.heap_blocks.proofs.laws.changes_widen.Goals as goal

pub returns : goal.returns
returns c = changes_widened
