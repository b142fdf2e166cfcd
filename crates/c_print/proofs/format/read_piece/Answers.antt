use Rattle.std.proofs.Common.{◌≡◌, ◌∷◌, ℕ, Bool, List, is_ok, ◌≤◌, sym, ap, ◌∙◌, subst}
use Rattle.hs_base.specs.declared.ends.IntKind.{IntKind}
use Rattle.c_print.specs.Item.{ReadsItem}
use Rattle.c_print.proofs.Pieces.{no_piece, no_plain}
use Rattle.c_print.proofs.format.read_piece.Goals as goal

pub returns-in-Some-clause-bad : goal.returns-in-Some-clause-bad
returns-in-Some-clause-bad c bad =
    let behind : c.args.bytes.now ≡ 37 ∷ c.in-Some.item.now = c.in-Some.ensures in
    no_piece c.args.bytes.now (no_plain c.args.bytes.now c.in_ok-text.text c.in_ok-text.rest.now (subst (λ n. n ≤ 0) c.len.ensures c.if-len-gt0.false) c.in_ok-text.ensures)
    (λ item is. let same : c.in-Some.item.now ≡ item = cc in
    subst (λ (l : List ℕ). (left zeros : Bool) (width conv : ℕ) (kind : IntKind) (rest : List ℕ) → ¬ ReadsItem l left zeros width conv kind rest) same
    (c.read_item.ensures.none (sym c.ok_or.ensures.variant ∙ ap is_ok bad)))

pub returns-clause-bad : goal.returns-clause-bad
returns-clause-bad c bad =
    no_piece c.args.bytes.now (no_plain c.args.bytes.now c.in_ok-text.text c.in_ok-text.rest.now (subst (λ n. n ≤ 0) c.len.ensures c.if-len-gt0.false) c.in_ok-text.ensures)
    (λ item is. absurd (c.in-None.ensures item is))
