use Rattle.std.proofs.Common.{◌+◌, ◌*◌, ◌/◌, arith}
use Rattle.heap_blocks.proofs.Placing.{block_placed}
use Rattle.heap_blocks.proofs.blocks.write_block.Goals as goal

pub returns-clause-placed : goal.returns-clause-placed
returns-clause-placed g c =
    let h = c.args.header.now in
    block_placed c.args.bytes.now c.write.new.bytes c.clear.new.bytes c.args.block (8 * (2 * (h.size / 16 + 1))) h (omega arith) (omega arith) c.write.ensures.header c.write.ensures.outside c.clear.ensures.zero c.clear.ensures.outside
