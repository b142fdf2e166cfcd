use Rattle.std.proofs.Common.{◌-◌, ◌/◌, ◌++◌, map, drop, set, ap, ◌∙◌, arith}
use Rattle.std.specs.Fmt.{digit_glyph}
use Rattle.std.specs.Int.Digits.{digits_of}
use Rattle.std.proofs.lemmas.List.{length-set}
use Rattle.std.proofs.lemmas.Int.Digits.{length-digits_of_step}
use Rattle.c_print.proofs.Numerals.{last_written, more_written, room_at_first, base_is_some}
use Rattle.c_print.proofs.numeral.write_numeral.Goals as goal

pub loop-left-init : goal.loop-left-init
loop-left-init c = let low = base_is_some c.args.base c.requires in record {
  len = length-set c.args.buffer.now 21 c.glyph.result ∙ c.told-buffer;
  within = omega arith;
  room = room_at_first c.args.base c.args.number c.requires (omega arith);
  written = ap (λ glyph. map (digit_glyph c.args.capital) (digits_of c.args.base (c.args.number / c.args.base)) ++ drop 21 (set c.args.buffer.now 21 glyph)) c.glyph.ensures
      ∙ last_written c.args.base c.args.capital c.args.number c.args.buffer.now low c.told-buffer;
}

pub overflow_sub-start-in-loop-left : goal.overflow_sub-start-in-loop-left
overflow_sub-start-in-loop-left c =
    let low = base_is_some c.args.base c.requires in
    let room = c.loop-left.invariant.room in
    omega (arith, length-digits_of_step c.args.base c.loop-left.left low c.loop-left-test.true)

pub loop-left-preserved : goal.loop-left-preserved
loop-left-preserved c =
    let low = base_is_some c.args.base c.requires in
    let step = length-digits_of_step c.args.base c.loop-left.left low c.loop-left-test.true in
    let room = c.loop-left.invariant.room in
    let len = c.loop-left.invariant.len in
    record {
      len = length-set c.loop-left.buffer (c.loop-left.start - 1) c.glyph-in-loop-left.result ∙ len;
      within = omega arith;
      room = omega arith;
      written = ap (λ glyph. map (digit_glyph c.args.capital) (digits_of c.args.base (c.loop-left.left / c.args.base)) ++ drop (c.loop-left.start - 1) (set c.loop-left.buffer (c.loop-left.start - 1) glyph)) c.glyph-in-loop-left.ensures
          ∙ more_written c.args.base c.args.capital c.loop-left.left c.loop-left.start c.loop-left.buffer low c.loop-left-test.true (omega arith) (omega arith)
          ∙ c.loop-left.invariant.written;
    }
