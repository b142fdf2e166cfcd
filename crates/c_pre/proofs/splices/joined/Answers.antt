use Rattle.std.proofs.Common.{◌≡◌, ℕ, ◌+◌, ◌<◌, ◌++◌, List, ◌∷◌, [], length, drop, replicate, refl, ap, ◌∙◌, arith, length-append}
use Rattle.std.proofs.lemmas.List.{length-replicate}
use Rattle.c_pre.specs.Lines.{lines_of}
use Rattle.c_pre.specs.Splices.{joined}
use Rattle.c_pre.proofs.Joining.{part_joined, line_joined, all_joined}
use Rattle.c_pre.proofs.Places.{line_within}
use Rattle.c_pre.proofs.splices.joined.Goals as goal

pub lines-preserved-in-Some : goal.lines-preserved-in-Some
lines-preserved-in-Some c =
    let text = c.args.text.now in let l = c.first_line-line in let whole = c.lines.whole.items in let part = c.in-Some.part.now in
    let inside : c.lines.at < length text = omega (arith, c.lines-test.true) in
    let made : c.push.new.self.items ≡ (whole ++ part) ++ 32 ∷ [] = c.in_ok-push.ensures.items ∙ ap (λ (w : List ℕ). w ++ 32 ∷ []) c.in_ok-extend_from_slice.ensures.items in
    record {
      bytes = ap (λ (w : List ℕ). w ++ joined (c.lines.taken + 1) (lines_of (drop (c.lines.at + length l.result.now) text))) made
          ∙ part_joined text l.result.now _ _ whole part _ c.lines.taken c.lines.at inside refl l.ensures.line l.ensures.len refl c.in-Some.ensures.part c.lines.invariant.bytes;
      len = omega (arith, ap (λ (w : List ℕ). length w) made, length-append (whole ++ part) (32 ∷ []), length-append whole part, c.in-Some.ensures.len, c.lines.invariant.len);
      within = line_within text text l.result.now c.lines.at refl inside l.ensures.bound;
    }

pub lines-preserved : goal.lines-preserved
lines-preserved c =
    let text = c.args.text.now in let l = c.first_line-line in let whole = c.lines.whole.items in
    let inside : c.lines.at < length text = omega (arith, c.lines-test.true) in
    let made : c.end_lines.new.text.items ≡ (whole ++ l.result.now) ++ replicate c.lines.taken 10 = c.in_ok-end_lines.ensures ∙ ap (λ (w : List ℕ). w ++ replicate c.lines.taken 10) c.in_ok-extend_from_slice-2.ensures.items in
    record {
      bytes = ap (λ (w : List ℕ). w ++ joined 0 (lines_of (drop (c.lines.at + length l.result.now) text))) made
          ∙ line_joined text l.result.now _ _ whole _ c.lines.taken c.lines.at inside refl l.ensures.line l.ensures.len refl c.in_default.ensures.part c.lines.invariant.bytes;
      len = omega (arith, ap (λ (w : List ℕ). length w) made, length-append (whole ++ l.result.now) (replicate c.lines.taken 10), length-append whole l.result.now, length-replicate {A = ℕ} c.lines.taken 10, c.lines.invariant.len);
      within = line_within text text l.result.now c.lines.at refl inside l.ensures.bound;
    }

pub returns-clause-bytes : goal.returns-clause-bytes
returns-clause-bytes c =
    c.in_ok-end_lines-2.ensures
    ∙ all_joined c.args.text.now c.lines.whole.items _ c.lines.taken c.lines.at (omega (arith, c.lines-test.false)) c.lines.invariant.bytes
