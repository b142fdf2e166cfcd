use Rattle.c_pre.proofs.Rows.{read_get}
use Rattle.c_pre.proofs.row.Row.end_of.Goals as goal

pub returns-in-Some : goal.returns-in-Some
returns-in-Some c =
    let h = c.in-Some.ensures.lookup in
    let is = read_get c.args.self.now.ends.items c.deref.result.now c.args.at c.in-Some.end.now c.deref.ensures.value h.3.0 h.3.1 in
    (c.if-at-end.true, c.args.self.now.paired c.args.at c.in-Some.end.now is c.if-at-end.true)
