use Rattle.heap_blocks.proofs.Staying.{headers_written}
use Rattle.heap_blocks.proofs.laws.headers_may_be_written.Goals as goal

pub returns : goal.returns
returns c = headers_written
