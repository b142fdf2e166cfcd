use Rattle.std.proofs.Common.{arith}
use Rattle.std.proofs.lemmas.Option.{slice_get_read}
use Rattle.c_pre.proofs.Rows.{pieces_front, pieces_none}
use Rattle.c_pre.proofs.rest.Rest.front.Goals as goal

pub returns-in-Some : goal.returns-in-Some
returns-in-Some c =
    let p = c.in-Some.piece.now in
    let read = slice_get_read p.row.value.tokens.items _ p.from c.index.result.now p.row.value.tokens.ok.0 (omega (arith, p.some, p.within)) (rw c.deref.ensures at c.index.ensures) in
    pieces_front c.args.self.now c.self.inside.pieces p c.index.result.now c.self.view_is c.in-Some.ensures read

pub returns-in-None : goal.returns-in-None
returns-in-None c = pieces_none c.args.self.now c.self.inside.pieces c.self.view_is c.in-None.ensures
