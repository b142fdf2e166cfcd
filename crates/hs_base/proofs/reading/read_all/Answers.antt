use Rattle.std.proofs.Common.{length, arith, ap, ◌∙◌}
use Rattle.hs_base.proofs.Pieces.{not_longer}
use Rattle.hs_base.proofs.reading.read_all.Goals as goal

pub returns-then-not-branch-clause-bytes : goal.returns-then-not-branch-clause-bytes
returns-then-not-branch-clause-bytes g c = λ told h.
    let all = rw c.if-not-branch.true at (c.in_ok-read_more.ensures.bytes told (c.pieces.invariant.keeps ∙ h) (c.pieces.invariant.told told h)) in
    let same = c.in_ok-read_more.ensures.done c.if-not-branch.true in
    (c.from.ensures ∙ all, omega (arith, ap (λ xs. length xs) all, ap (λ xs. length xs) same, c.pieces.text.ok.0))

pub pieces-preserved : goal.pieces-preserved
pieces-preserved g c = record {
  told = λ told h. rw c.if-not-branch.false at (c.in_ok-read_more.ensures.bytes told (c.pieces.invariant.keeps ∙ h) (c.pieces.invariant.told told h));
  keeps = c.read_more.ensures.keeps ∙ c.pieces.invariant.keeps;
  count = c.in_ok-read_more.ensures.cause ∙ c.pieces.invariant.count;
}

pub returns-clause-bytes : goal.returns-clause-bytes
returns-clause-bytes g c = λ told h.
    let long = not_longer (told c.args.name.now) c.pieces.text.items (c.pieces.invariant.told told h) in
    omega (arith, long, c.pieces.text.ok.0)
