use Rattle.std.proofs.Common.{◌+◌, ◌∙◌, ap, arith}
use Rattle.byte_memory.specs.Bytes.{put_word}
use Rattle.heap_blocks.proofs.Heading.{next_written}
use Rattle.heap_blocks.proofs.headers.Header.write_next.Goals as goal

pub returns : goal.returns
returns g c =
    let w =
    next_written c.args.bytes.now c.write.new.self c.args.block c.args.next c.requires.inside (omega arith)
    (c.write.ensures.value ∙ ap (put_word c.args.bytes.now (c.args.block + 28) 4) c.from.ensures) in
    record { header = w.0; outside = w.1; steps = omega arith }
