use Rattle.heap_blocks.proofs.Staying.{headers_beside, headers_within}
use Rattle.heap_blocks.proofs.laws.headers_stay.Goals as goal

pub returns : goal.returns
returns c = record { beside = headers_beside; within = headers_within }
