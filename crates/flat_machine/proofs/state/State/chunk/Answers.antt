use Rattle.std.proofs.Common.{◌∙◌, ◌<◌, length, length-set, arith}
use Rattle.flat_machine.proofs.Texts.{chunk_more}
use Rattle.flat_machine.proofs.state.State.chunk.Goals as goal

pub loop-i-preserved : goal.loop-i-preserved
loop-i-preserved g c = record {
  long = length-set c.loop-i.chunk c.loop-i.i c.string_byte.result ∙ c.loop-i.invariant.long;
  read = λ places objects p text string inside.
      let room : c.loop-i.i < length c.loop-i.chunk = omega (arith, c.loop-i.invariant.long, c.requires.short) in
      chunk_more c.loop-i.chunk text c.args.from c.loop-i.i c.string_byte.result room (omega arith) (c.loop-i.invariant.read places objects p text string inside) (c.string_byte.ensures places objects p text (record { at = string.at; string = string.string; more = omega arith }));
}
