use Rattle.std.proofs.Common.{refl}
use Rattle.hs_base.proofs.Pieces.{more}
use Rattle.hs_base.proofs.reading.read_more.Goals as goal

pub returns-clause-bytes : goal.returns-clause-bytes
returns-clause-bytes g c = λ told h front.
    let b = rw (c.len.ensures, c.args.text.now.ok.0) at (c.in_ok-n.ensures.bytes told h) in
    more (told c.args.name.now) c.args.text.now.items c.extend_from_slice.new.self.items c.piece.new.buffer c.in_ok-n.n _ refl front b.0 b.1 b.2 c.in_ok-extend_from_slice.ensures.items
