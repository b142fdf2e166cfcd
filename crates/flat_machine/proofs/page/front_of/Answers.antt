use Rattle.std.proofs.Common.{◌≡◌, get_or, ◌+◌, arith, ap, sym, take, length, ◌∙◌}
use Rattle.std.proofs.lemmas.List.{length_push}
use Rattle.flat_machine.specs.Noting.{bytes_put}
use Rattle.flat_machine.specs.Noted.{numbers}
use Rattle.flat_machine.specs.declared.note.Note.TheVariants.{Put, Read}
use Rattle.flat_machine.proofs.Notes.{bytes_take, puts_next, puts_more, puts_reads, marks_puts, marks_more}
use Rattle.flat_machine.proofs.page.front_of.Goals as goal
use Rattle.flat_machine.proofs.page.front_of.Goals.{in-Read, in-Put+else-passed-bytes}

pub returns-then-passed-bytes-clause-bytes : goal.returns-then-passed-bytes-clause-bytes
returns-then-passed-bytes-clause-bytes c =
    bytes_take c.args.notes.now c.loop-i.i c.args.bytes (omega (arith, c.loop-i.invariant.passed, c.if-passed-bytes.true))

pub returns-then-passed-bytes-clause-next : goal.returns-then-passed-bytes-clause-next
returns-then-passed-bytes-clause-next c = λ none.
    absurd (puts_next c.args.notes.now c.loop-i.i c.loop-i-test.true c.in-Put.byte c.in-Put.is c.is_byte.ensures none)

pub loop-i-preserved : goal.loop-i-preserved
loop-i-preserved c =
    let known = c.loop-i.invariant in
    elim c.match-note.branch [
      | in-Read w ↦
          let at : get_or c.args.notes.now c.loop-i.i (Put 0) ≡ Read = w.in-Read.is in
          let passed : c.match-note.passed ≡ c.loop-i.passed = w.passed-is in
          let reads : c.match-note.reads ≡ c.loop-i.reads + 1 = w.reads-is in
          record {
            few = omega (arith, passed, known.few);
            passed = passed ∙ known.passed ∙ sym (ap length (marks_puts c.args.notes.now c.loop-i.i c.loop-i-test.true at));
            reads = omega (arith, reads, known.reads, marks_more c.args.notes.now c.loop-i.i c.loop-i-test.true at);
            short = omega (arith, reads, known.short);
          }
      | in-Put+else-passed-bytes w ↦
          let at : get_or c.args.notes.now c.loop-i.i (Put 0) ≡ Put w.in-Put.byte = w.in-Put.is in
          let passed : c.match-note.passed ≡ c.loop-i.passed + 1 = w.passed-is in
          let reads : c.match-note.reads ≡ c.loop-i.reads = w.reads-is in
          record {
            few = omega (arith, passed, known.few, w.if-passed-bytes.false);
            passed = omega (arith, passed, known.passed, ap length (puts_more c.args.notes.now c.loop-i.i c.loop-i-test.true w.in-Put.byte at w.is_byte.ensures), length_push (bytes_put (numbers (take c.loop-i.i c.args.notes.now))) w.in-Put.byte);
            reads = reads ∙ known.reads ∙ sym (puts_reads c.args.notes.now c.loop-i.i c.loop-i-test.true w.in-Put.byte at w.is_byte.ensures);
            short = omega (arith, reads, known.short);
          }
    ]
