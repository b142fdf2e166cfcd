use Rattle.std.proofs.Common.{◌+◌, ◌∙◌, ap, arith}
use Rattle.byte_memory.specs.Bytes.{put_word}
use Rattle.heap_blocks.proofs.Heading.{queued_written}
use Rattle.heap_blocks.proofs.headers.Header.write_queued.Goals as goal

pub returns : goal.returns
returns g c =
    let at = c.args.block in
    let w =
    queued_written c.args.bytes.now c.write.new.self c.write-2.new.self c.write-3.new.self at c.args.freed c.requires.inside
    (omega arith)
    (c.write.ensures.value ∙ ap (put_word c.args.bytes.now (at + 20) 4) c.from.ensures)
    (c.write-2.ensures.value ∙ ap (put_word c.write.new.self (at + 24) 4) c.from-2.ensures)
    c.write-3.ensures.value in
    record { header = w.0; outside = w.1; steps = omega arith }
