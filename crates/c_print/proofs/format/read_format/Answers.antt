use Rattle.std.proofs.Common.{◌≡◌, List, [], Err, sym, ap, ◌∙◌, subst, length, ◌==◌}
use Rattle.std.proofs.lemmas.Bool.{both_ways, eqb-true}
use Rattle.std.proofs.lemmas.List.{nil_from_length}
use Rattle.std.proofs.lemmas.Result.{err_from_is_err_and}
use Rattle.c_print.specs.declared.piece.Piece.{Piece}
use Rattle.c_print.specs.declared.piece.FormatError.TheVariants as error
use Rattle.c_print.specs.Format.{ReadsPieces}
use Rattle.c_print.proofs.Functions.{pieces_of_format}
use Rattle.c_print.proofs.Pieces.{all_given, piece_is_longer, reads_more, reads_no_more}
use Rattle.c_print.proofs.format.read_format.Goals as goal

pub returns-in_err-piece-clause-bad : goal.returns-in_err-piece-clause-bad
returns-in_err-piece-clause-bad c bad =
    let shown = err_from_is_err_and c.from_residual.result c.from_residual.ensures.1 in
    let is_bad : shown.0 ≡ error.Bad = cc (shown.1, bad) in
    reads_no_more c.args.bytes.now c.loop-rest.pieces c.loop-rest.rest.now c.loop-rest.invariant
    (λ empty. both_ways _ c.loop-rest-test.true (c.is_empty.ensures ∙ ap (λ l. length l == 0) empty))
    (c.in_err-piece.ensures.bad (ap Err (sym shown.2 ∙ is_bad)))

pub loop-rest-smaller : goal.loop-rest-smaller
loop-rest-smaller c = piece_is_longer c.loop-rest.rest.now c.in_ok-piece.piece c.in_ok-piece.after.now c.in_ok-piece.ensures.piece

pub loop-rest-preserved : goal.loop-rest-preserved
loop-rest-preserved c =
    subst (λ (l : List Piece). ReadsPieces c.args.bytes.now l c.in_ok-piece.after.now) (sym c.in_ok-push.ensures.ok)
    (reads_more c.args.bytes.now c.loop-rest.pieces c.loop-rest.rest.now c.in_ok-piece.piece c.in_ok-piece.after.now
    c.loop-rest.invariant c.in_ok-piece.ensures.piece)

pub returns-clause-given : goal.returns-clause-given
returns-clause-given c = all_given c.args.bytes.now c.loop-rest.pieces c.loop-rest.rest.now c.loop-rest.invariant

pub returns-clause-read : goal.returns-clause-read
returns-clause-read c =
    let empty : c.loop-rest.rest.now ≡ [] = nil_from_length c.loop-rest.rest.now (eqb-true (length c.loop-rest.rest.now) 0 (sym c.is_empty.ensures ∙ c.loop-rest-test.false)) in
    sym (pieces_of_format c.args.bytes.now c.loop-rest.pieces (subst (ReadsPieces c.args.bytes.now c.loop-rest.pieces) empty c.loop-rest.invariant))
