use Rattle.std.proofs.Common.{◌≡◌, ◌∙◌, set, get_or, sym, ap, arith}
use Rattle.byte_memory.specs.BytesEquations.{stored_byte, word_1}
use Rattle.typed_copies.proofs.moving.copy_byte.Goals as goal

pub returns-clause-copied : goal.returns-clause-copied
returns-clause-copied g c =
    let read : c.read-byte.result ≡ get_or c.args.bytes.now c.args.from 0 = c.read-byte.ensures.value ∙ word_1 c.args.bytes.now c.args.from (omega (arith, c.requires.from)) in
    c.write.ensures.value ∙ sym (stored_byte c.args.bytes.now c.args.to c.read-byte.result c.requires.to c.read-byte.ensures.bound) ∙ ap (set c.args.bytes.now c.args.to) read
