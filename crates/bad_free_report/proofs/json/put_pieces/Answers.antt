use Rattle.std.proofs.Common.{◌∙◌, rules, suc, drop, take, arith}
use Rattle.std.specs.List.{flat_map}
use Rattle.bad_free_report.specs.Pieces.{piece_text}
use Rattle.bad_free_report.proofs.Joining.{failed_within, flat_map-around, taken_more}
use Rattle.bad_free_report.proofs.json.put_pieces.Goals as goal

pub returns-in_err-put_piece-clause-bytes : goal.returns-in_err-put_piece-clause-bytes
returns-in_err-put_piece-clause-bytes g c =
    failed_within _ _ _ (flat_map piece_text (take c.loop-piece.piece-index c.args.pieces.now)) _
    (flat_map piece_text (drop (suc c.loop-piece.piece-index) c.args.pieces.now)) _ c.put_piece.result c.from_residual.result
    (search rules) c.from_residual.ensures.0 c.loop-piece.invariant.begun c.put_piece.ensures.bytes
    (flat_map-around piece_text c.args.pieces.now c.loop-piece.piece-index _ c.loop-piece-test.true)

pub loop-piece-preserved : goal.loop-piece-preserved
loop-piece-preserved g c = record {
  none_failed = c.in_ok-put_piece.ensures.cause ∙ c.loop-piece.invariant.none_failed;
  begun = taken_more piece_text c.args.pieces.now c.loop-piece.piece-index _ _ _ _ _ c.loop-piece-test.true (omega arith)
      c.in_ok-put_piece.ensures.bytes c.loop-piece.invariant.begun;
}
