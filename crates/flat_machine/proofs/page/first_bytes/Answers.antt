use Rattle.std.proofs.Common.{◌≡◌, ◌<◌, set, get_or, ◌∷◌, [], ◌+◌, ◌++◌, List, ℕ, arith, ap, sym, take, length, ◌∙◌}
use Rattle.std.proofs.lemmas.List.{take_more_set}
use Rattle.flat_machine.specs.declared.note.Note.TheVariants.{Put}
use Rattle.flat_machine.proofs.Notes.{bytes_front, puts_more, marks_puts}
use Rattle.flat_machine.proofs.page.first_bytes.Goals as goal
use Rattle.flat_machine.proofs.page.first_bytes.Goals.{in-Put+else-count-eq-CHUNK, in_default}

pub returns-then-count-eq-CHUNK-clause-bytes : goal.returns-then-count-eq-CHUNK-clause-bytes
returns-then-count-eq-CHUNK-clause-bytes c =
    bytes_front c.args.notes.now c.loop-i.i c.loop-i.count c.loop-i.chunk (omega (arith, c.loop-i.invariant.room, c.loop-i.invariant.long)) c.loop-i.invariant.bytes

pub loop-i-preserved : goal.loop-i-preserved
loop-i-preserved c =
    elim c.match-note.branch [
      | in-Put+else-count-eq-CHUNK w ↦
          let at : get_or c.args.notes.now c.loop-i.i (Put 0) ≡ Put w.in-Put.byte = w.in-Put.is in
          let room : c.loop-i.count < length c.loop-i.chunk = omega (arith, c.loop-i.invariant.room, c.loop-i.invariant.long, w.if-count-eq-CHUNK.false) in
          let count : c.match-note.count ≡ c.loop-i.count + 1 = w.count-is in
          let chunk : c.match-note.chunk ≡ set c.loop-i.chunk c.loop-i.count w.in-Put.byte = w.chunk-is in
          record {
            room = omega (arith, count, room, c.loop-i.invariant.long);
            long = c.match-note.array_long;
            bytes = ap (λ n. take n c.match-note.chunk) count ∙ ap (λ (ns : List ℕ). take (c.loop-i.count + 1) ns) chunk ∙ take_more_set c.loop-i.chunk c.loop-i.count w.in-Put.byte room
                ∙ ap (λ (ns : List ℕ). ns ++ w.in-Put.byte ∷ []) c.loop-i.invariant.bytes ∙ sym (puts_more c.args.notes.now c.loop-i.i c.loop-i-test.true w.in-Put.byte at w.is_byte.ensures);
          }
      | in_default w ↦
          let count : c.match-note.count ≡ c.loop-i.count = w.count-is in
          let chunk : c.match-note.chunk ≡ c.loop-i.chunk = w.chunk-is in
          record {
            room = omega (arith, count, c.loop-i.invariant.room);
            long = c.match-note.array_long;
            bytes = ap (λ n. take n c.match-note.chunk) count ∙ ap (λ (ns : List ℕ). take c.loop-i.count ns) chunk ∙ c.loop-i.invariant.bytes ∙ sym (marks_puts c.args.notes.now c.loop-i.i c.loop-i-test.true w.in_default.is);
          }
    ]
