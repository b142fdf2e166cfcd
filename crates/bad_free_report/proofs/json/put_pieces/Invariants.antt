use Rattle.std.proofs.Common.{◌≡◌, ◌++◌, ℕ, List, Some, take}
use Rattle.std.specs.List.{flat_map}
use Rattle.bad_free_report.specs.Pieces.{piece_text}
use Rattle.bad_free_report.proofs.json.put_pieces.Given as goal

-- no failure yet, and the pieces before this one are taken
abbrev pub invariant-loop-piece : goal.invariant-loop-piece
invariant-loop-piece g l = record {
  none_failed : g.E.Sink.faults l.err ≡ g.E.Sink.faults l.fn.err;
  begun : (taken : List ℕ) → g.E.Sink.taken l.fn.err ≡ Some taken →
      g.E.Sink.taken l.err ≡ Some (taken ++ flat_map piece_text (take l.piece-index l.pieces));
}
