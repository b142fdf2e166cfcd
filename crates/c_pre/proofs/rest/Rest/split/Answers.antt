use Rattle.std.proofs.Common.{arith}
use Rattle.std.proofs.lemmas.Option.{slice_get_read}
use Rattle.c_pre.proofs.Rows.{pieces_split, found_by}
use Rattle.c_pre.proofs.rest.Rest.split.Goals as goal

pub returns-in_ok-put-in-Some-2 : goal.returns-in_ok-put-in-Some-2
returns-in_ok-put-in-Some-2 c =
    let p = c.in-Some.piece in
    let f = c.in-Some-2.field-0 in
    let s = found_by c.args.keeps p.row.value.tokens.items p.from p.to c.in_ok-find_end.field-0 f c.in-Some-2.is c.in_ok-find_end.ensures in
    let read = slice_get_read p.row.value.tokens.items _ f.end c.index.result.now p.row.value.tokens.ok.0 (omega (arith, s.within, p.within)) (rw c.deref.ensures at c.index.ensures) in
    pieces_split c.args.keeps c.args.self.now c.self.inside.pieces p c.pop.new.self c.in_ok-find_end.field-0 f c.index.result.now c.in_ok-hidden-in-Some-2.hidden c.put.new.self c.self.view_is c.in-Some.ensures c.in-Some-2.is c.in_ok-find_end.ensures read c.in_ok-hidden-in-Some-2.ensures c.in_ok-put-in-Some-2.ensures
