use Rattle.std.proofs.Common.{◌≡◌, ◌≤◌, ◌<◌, ◌+◌, ℕ, List, length, sym, ap, subst, arith}
use Rattle.std.proofs.lemmas.Bool.{leb-true}
use Rattle.byte_marks.specs.Marks.{AreBytes, MarksModel}
use Rattle.byte_marks.proofs.Padded.{bytes_back, bytes_there, no_bytes_past}
use Rattle.byte_marks.proofs.Marks.are_bytes.Goals as goal

pub returns-then-at-n : goal.returns-then-at-n
returns-then-at-n c =
    let marks = c.self.inside.list.items in
    let size = c.self.inside.size in
    let same : c.as_slice-marks.result.now ≡ marks = c.as_slice-marks.ensures.value in
    let inside : c.args.addr + c.args.n ≤ length marks = omega (arith, c.if-at-n.true, ap length same) in (
      λ told. subst (λ (m : MarksModel). AreBytes m.bytes c.args.addr c.args.n) c.self.view_is (bytes_there marks size c.args.addr c.args.n c.self.invariant.0 inside (subst (λ (l : List ℕ). AreBytes l c.args.addr c.args.n) same (c.all_bytes.ensures.0 told))),
      λ are. c.all_bytes.ensures.1 (subst (λ (l : List ℕ). AreBytes l c.args.addr c.args.n) (sym same) (bytes_back marks size c.args.addr c.args.n inside (subst (λ (m : MarksModel). AreBytes m.bytes c.args.addr c.args.n) (sym c.self.view_is) are))),
    )

pub returns-else-at-n : goal.returns-else-at-n
returns-else-at-n c =
    let marks = c.self.inside.list.items in
    let same : c.as_slice-marks.result.now ≡ marks = c.as_slice-marks.ensures.value in
    let past : length marks < c.args.addr + c.args.n = omega (arith, c.if-at-n.false, ap length same) in (
      λ told. let less = leb-true (c.args.addr + c.args.n) (length c.as_slice-marks.result.now) told in absurd (omega (arith, c.if-at-n.false)),
      λ are. absurd (no_bytes_past marks c.self.inside.size c.args.addr c.args.n c.self.invariant.0 (omega arith) past (subst (λ (m : MarksModel). AreBytes m.bytes c.args.addr c.args.n) (sym c.self.view_is) are)),
    )
