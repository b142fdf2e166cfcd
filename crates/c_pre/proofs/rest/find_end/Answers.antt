use Rattle.std.proofs.Common.{sym, ◌∙◌, ◌≡◌, ◌+◌, arith}
use Rattle.std.proofs.lemmas.Option.{slice_get_read}
use Rattle.c_pre.proofs.Rows.{split_starts, split_ends, split_parts, split_stays, split_passes}
use Rattle.c_pre.proofs.rest.find_end.Goals as goal
use Rattle.c_pre.proofs.rest.find_end.Goals.{then-is_separator+in_ok-part-2+in_ok-push-2, else-is_separator}

pub loop-at-init : goal.loop-at-init
loop-at-init c =
    let p = c.args.piece.now in
    rw c.new-args.ensures (split_starts c.args.keeps p.row.value.tokens.items p.from p.to (omega (arith, p.some)))

pub returns-then-is_sign : goal.returns-then-is_sign
returns-then-is_sign c =
    let p = c.args.piece.now in
    let read = slice_get_read p.row.value.tokens.items _ c.loop-at.at c.index.result.now p.row.value.tokens.ok.0 (omega (arith, c.loop-at-test.true, p.within)) (rw c.deref-row.ensures at c.index.ensures) in
    rw (c.in_ok-push.ensures, c.in_ok-part.ensures)
    (split_ends c.args.keeps p.row.value.tokens.items p.from p.to c.loop-at.start c.loop-at.at c.loop-at.args c.loop-at.invariant c.index.result.now c.loop-at-test.true read (sym c.is_sign.ensures ∙ c.if-is_sign.true))

pub loop-at-preserved-then-is_sign-2 : goal.loop-at-preserved-then-is_sign-2
loop-at-preserved-then-is_sign-2 c =
    let p = c.args.piece.now in
    split_passes c.args.keeps p.row.value.tokens.items p.from p.to c.loop-at.start c.loop-at.at c.loop-at.args c.loop-at.invariant c.in-Some.end c.in-Some.ensures.0 c.if-end-piece.true (rw c.deref-row.ensures at c.in-Some.ensures.1)

pub loop-at-preserved : goal.loop-at-preserved
loop-at-preserved c =
    let p = c.args.piece.now in
    let read = slice_get_read p.row.value.tokens.items _ c.loop-at.at c.index.result.now p.row.value.tokens.ok.0 (omega (arith, c.loop-at-test.true, p.within)) (rw c.deref-row.ensures at c.index.ensures) in
    elim c.if-is_separator.branch [
      | then-is_separator+in_ok-part-2+in_ok-push-2 w ↦
          let args : c.if-is_separator.args ≡ w.push-then-is_separator.new.self = w.args-is in
          let start : c.if-is_separator.start ≡ c.loop-at.at + 1 = w.start-is in
          rw (args, start, w.in_ok-push-2.ensures, w.in_ok-part-2.ensures)
          (split_parts c.args.keeps p.row.value.tokens.items p.from p.to c.loop-at.start c.loop-at.at c.loop-at.args c.loop-at.invariant c.index.result.now c.loop-at-test.true read (sym (rw c.len.ensures at c.is_separator.ensures) ∙ w.if-is_separator.true))
      | else-is_separator w ↦
          let args : c.if-is_separator.args ≡ c.loop-at.args = w.args-is in
          let start : c.if-is_separator.start ≡ c.loop-at.start = w.start-is in
          rw (args, start)
          (split_stays c.args.keeps p.row.value.tokens.items p.from p.to c.loop-at.start c.loop-at.at c.loop-at.args c.loop-at.invariant c.index.result.now c.loop-at-test.true read (sym c.is_sign.ensures ∙ c.if-is_sign.false) (sym c.is_sign-in-loop-at.ensures ∙ c.if-is_sign-2.false) (sym (rw c.len.ensures at c.is_separator.ensures) ∙ w.if-is_separator.false))
    ]
