use Rattle.std.proofs.Common.{arith}
use Rattle.std.proofs.lemmas.Option.{slice_get_read}
use Rattle.c_pre.proofs.Rows.{pieces_pop}
use Rattle.c_pre.proofs.rest.Rest.pop.Goals as goal

pub returns : goal.returns
returns c =
    let p = c.in-Some.field-0 in
    let read = slice_get_read p.row.value.tokens.items _ p.from c.index.result.now p.row.value.tokens.ok.0 (omega (arith, p.some, p.within)) (rw c.deref.ensures at c.index.ensures) in
    pieces_pop c.args.self.now c.self.inside.pieces p c.pop.new.self c.index.result.now c.in_ok-first.first c.put.new.self c.self.view_is c.in-Some.ensures read c.in_ok-first.ensures c.in_ok-put.ensures
