use Rattle.std.proofs.Common.{◌+◌, ◌∙◌, ap, arith}
use Rattle.byte_memory.specs.Bytes.{put_word}
use Rattle.heap_blocks.proofs.Heading.{header_written}
use Rattle.heap_blocks.proofs.headers.Header.write.Goals as goal

pub returns : goal.returns
returns g c =
    let at = c.args.block in
    let h = c.args.self.now in
    let w =
    header_written c.args.bytes.now c.write.new.self c.write-2.new.self c.write-3.new.self c.write-4.new.self c.write-5.new.self c.write-6.new.self c.write-7.new.self at h c.requires.inside
    (omega arith) (omega arith) (omega arith) (omega arith) (omega arith) (omega arith) (omega arith)
    c.write.ensures.value
    (c.write-2.ensures.value ∙ ap (put_word c.write.new.self (at + 8) 4) c.from.ensures)
    (c.write-3.ensures.value ∙ ap (put_word c.write-2.new.self (at + 12) 4) c.from-2.ensures)
    (c.write-4.ensures.value ∙ ap (put_word c.write-3.new.self (at + 16) 4) c.from-3.ensures)
    (c.write-5.ensures.value ∙ ap (put_word c.write-4.new.self (at + 20) 4) c.from-4.ensures)
    (c.write-6.ensures.value ∙ ap (put_word c.write-5.new.self (at + 24) 4) c.from-5.ensures)
    (c.write-7.ensures.value ∙ ap (put_word c.write-6.new.self (at + 28) 4) c.from-6.ensures) in
    record { header = w.0; outside = w.1; steps = omega arith }
