use Rattle.std.proofs.Common.{List, ℕ, codes, decimal, sym, subst}
use Rattle.hs_base.specs.PutAll.{PutsAll}
use Rattle.bad_free_report.specs.Pieces.{piece_text}
use Rattle.bad_free_report.proofs.ObjectParts.{three_members}
use Rattle.bad_free_report.proofs.said.put_freed.Goals as goal

pub returns-in_default-clause-bytes : goal.returns-in_default-clause-bytes
returns-in_default-clause-bytes g c = rw c.in_default.is c.put_all.ensures.bytes

pub returns-clause-bytes : goal.returns-clause-bytes
returns-clause-bytes g c =
    let freed = c.in-Some.freed in
    rw (c.in-Some.is, ← c.number_or_null-line.ensures, ← c.from.ensures)
    (subst (λ (bytes : List ℕ). PutsAll (g.E.Sink.taken c.args.err.now) (g.E.Sink.taken c.put_pieces.new.err) bytes c.put_pieces.result)
    (sym (three_members (codes "{\"blocks\":") (decimal c.from.result) (codes ",\"bytes\":") (decimal freed.bytes) (codes ",\"line\":") (piece_text c.number_or_null-line.result) (codes "}") (codes ",\"help\":")))
    c.put_pieces.ensures.bytes)
