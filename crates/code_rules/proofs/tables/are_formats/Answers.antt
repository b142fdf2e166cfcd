use Rattle.std.proofs.Common.{◌≤◌, List, ℕ, length, take, subst}
use Rattle.std.specs.List.{All}
use Rattle.c_print.specs.Format.{IsFormat}
use Rattle.c_print.specs.Pieces.{pieces_of}
use Rattle.code_rules.proofs.Loops.{all_of, more}
use Rattle.code_rules.proofs.tables.are_formats.Goals as goal

pub loop-format-preserved : goal.loop-format-preserved
loop-format-preserved c =
    more (λ format. IsFormat format (pieces_of format)) c.as_slice-format-items.result.now c.loop-format.format-index c.format-item.result c.loop-format-test.true c.format-item.is
    c.loop-format.invariant
    (subst (λ (s : List ℕ). IsFormat s (pieces_of s)) c.as_slice.ensures (c.in_ok-is_format.ensures.0 c.if-not-branch.false))

pub returns : goal.returns
returns c =
    let items = c.as_slice-format-items.result.now in
    all_of (λ format. IsFormat format (pieces_of format)) c.args.code.now.formats c.loop-format.format-index
    (subst (λ (l : List (List ℕ)). length l ≤ c.loop-format.format-index) c.as_slice-format-items.ensures c.loop-format-test.false)
    (subst (λ (l : List (List ℕ)). All (λ format. IsFormat format (pieces_of format)) (take c.loop-format.format-index l)) c.as_slice-format-items.ensures c.loop-format.invariant)
