use Rattle.std.proofs.Common.{List, ℕ, codes, sym, subst}
use Rattle.hs_base.specs.PutAll.{PutsAll}
use Rattle.bad_free_report.specs.Json.{quoted}
use Rattle.bad_free_report.specs.Pieces.{piece_text}
use Rattle.bad_free_report.proofs.ObjectParts.{five_members}
use Rattle.bad_free_report.proofs.said.put_place.Goals as goal

pub returns-in_default-clause-bytes : goal.returns-in_default-clause-bytes
returns-in_default-clause-bytes g c = rw c.in_default.is c.put_all.ensures.bytes

pub returns-clause-bytes : goal.returns-clause-bytes
returns-clause-bytes g c =
    rw (c.in-Some.is, ← c.text_or_null-name.ensures, ← c.text_or_null-func.ensures, ← c.number_or_null-line.ensures, ← c.number_or_null-offset.ensures)
    (subst (λ (bytes : List ℕ). PutsAll (g.E.Sink.taken c.args.err.now) (g.E.Sink.taken c.put_pieces.new.err) bytes c.put_pieces.result)
    (sym (five_members (codes "{\"kind\":") (quoted c.in-Some.place.kind.now) (codes ",\"name\":") (piece_text c.text_or_null-name.result) (codes ",\"function\":") (piece_text c.text_or_null-func.result)
    (codes ",\"line\":") (piece_text c.number_or_null-line.result) (codes ",\"offset\":") (piece_text c.number_or_null-offset.result) (codes "}") (codes ",\"freed\":")))
    c.put_pieces.ensures.bytes)
